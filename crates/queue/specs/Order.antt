-- The order in which entries are handed out: by estimate, cost, delay and label. Assumes nothing.
use Rattle.std.specs.Prelude.{Bool}
use Rattle.std.specs.declared.cmp.Ordering.{Ordering}
use Rattle.std.specs.Ordering.{is_lt, ordering_then, nat_cmp}
use Rattle.queue.specs.declared.entry.Entry.{Entry}

-- the first of the four in which two entries differ decides
abbrev pub compared : Entry → Entry → Ordering
compared a b =
    ordering_then (nat_cmp a.estimate b.estimate)
    (ordering_then (nat_cmp a.cost b.cost) (ordering_then (nat_cmp a.delay b.delay) (nat_cmp a.label b.label)))

-- a comes strictly before b
abbrev pub before : Entry → Entry → Bool
before a b = is_lt (compared a b)

-- What is put into a caller's buffer. Assumes nothing.
use Rattle.std.specs.Prelude.{List, ◌++◌, length, drop, nat_le, if◌then◌else◌}

-- The items at the start of a buffer that is long enough, before the rest of it; a shorter one as it was.
abbrev pub laid : {X : Type 0} → List X → List X → List X
laid items buffer = if nat_le (length items) (length buffer) then items ++ drop (length items) buffer else buffer

-- Every case of the table comes out: the searches by computation, on records that may hold anything. Assumes nothing.
use Rattle.std.proofs.Common.{List, [], ◌∷◌, refl}
use Rattle.std.specs.List.{AllByRecursion}
use Rattle.network.specs.declared.refusals.Stop.TheVariants.{LabelsUsed, QueueFull}
use Rattle.network.specs.Checks.{first_failing, network_refusal}
use Rattle.network.specs.Legs.{leg_delay}
use Rattle.queue.specs.Bag.{insert}
use Rattle.search.specs.Calls.{open_refusal, run, chain_from}
use Rattle.figures.specs.Figures.{Case, searches, cases, ComesOut, EveryCaseComesOut}
use Rattle.figures.proofs.Ending.{ComputesAnywhere, search_comes_out, laid}
use Rattle.figures.proofs.Reaching.{fees_come_out, grades_come_out}

-- what there is to show of a case
abbrev ToShow : Case → Type 0
ToShow (searches c) = ComputesAnywhere c
ToShow c = ComesOut c

shown : (c : Case) → ToShow c → ComesOut c
shown (searches c) h = search_comes_out c h
shown c h = h

infixr 5 ◌then◌
-- one case after the other
data Each : List Case → Type 0 where
  done : Each []
  ◌then◌ : {c : Case} {cs : List Case} → ToShow c → Each cs → Each (c ∷ cs)

each_shown : (cs : List Case) → Each cs → AllByRecursion ComesOut cs
each_shown [] done = tt
each_shown (c ∷ cs) (h then more) = (shown c h, each_shown cs more)

-- the cases in the order of the table
each_case : Each cases
unfolding open_refusal network_refusal first_failing leg_delay insert run chain_from
each_case =
    (λ w a b c d e f g h x y z u. (refl, refl, refl, record { steps_made = refl; steps_told = refl; ending_told = refl; labels_written = refl; route_traced = laid (0 ∷ 1 ∷ []) }))
    then (λ w a b c d e f g h x y z u. (refl, refl, refl, record { steps_made = refl; steps_told = refl; ending_told = refl; labels_written = refl; route_traced = laid (0 ∷ 1 ∷ []) }))
    then (λ w a b c d e f g h x y z u. (refl, refl, refl, record { steps_made = refl; steps_told = refl; ending_told = refl; labels_written = refl; route_traced = laid (2 ∷ 3 ∷ []) }))
    then (λ w a b c d e f g h x y z u. (refl, refl, refl, record { steps_made = refl; steps_told = refl; ending_told = refl; labels_written = refl; route_traced = λ _. (refl, refl) }))
    then (λ w a b c d e f g h x y z u. (refl, refl, refl, record { steps_made = refl; steps_told = refl; ending_told = refl; labels_written = refl; route_traced = λ _. (refl, refl) }))
    then (λ w a b c d e f g h x y z u. (refl, refl, refl, record { steps_made = refl; steps_told = refl; ending_told = refl; labels_written = refl; route_traced = laid [] }))
    then (λ w a b c d e f g h x y z u. (refl, refl, refl, record { steps_made = refl; steps_told = refl; ending_told = refl; labels_written = refl; route_traced = laid (4 ∷ []) }))
    then (λ w a b c d e f g h x y z u. (refl, refl, refl, record { steps_made = refl; steps_told = refl; ending_told = refl; labels_written = refl; route_traced = laid (4 ∷ []) }))
    then (λ w a b c d x y z u. (refl, refl, refl, record { steps_made = refl; steps_told = refl; ending_told = (LabelsUsed, refl, refl); labels_written = refl; route_traced = λ _. (refl, refl) }))
    then (λ w a b c d e x y z u. (refl, refl, refl, record { steps_made = refl; steps_told = refl; ending_told = refl; labels_written = refl; route_traced = laid (0 ∷ 1 ∷ []) }))
    then (λ w a b c d e x y z u. (refl, refl, refl, record { steps_made = refl; steps_told = refl; ending_told = (QueueFull, refl, refl); labels_written = refl; route_traced = λ _. (refl, refl) }))
    then (λ w a b c d e x y z u. (refl, refl, refl, record { steps_made = refl; steps_told = refl; ending_told = refl; labels_written = refl; route_traced = laid (0 ∷ 1 ∷ []) }))
    then (λ w a b c d e f g h x y z u. (refl, refl))
    then (λ w a b c d e f g h x y z u. (refl, refl))
    then (λ tail head fee grade. refl)
    then fees_come_out
    then grades_come_out
    then done

pub every_case_comes_out : EveryCaseComesOut
every_case_comes_out = each_shown cases each_case

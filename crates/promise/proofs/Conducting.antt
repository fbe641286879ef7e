-- One call more, by what the calls of the code ensure. Assumes nothing.
use Rattle.std.proofs.Common.{◌≡◌, ℕ, List, [], ◌∷◌, ◌++◌, map, reverse, length, take, drop, Option, sym, refl, ap, ◌∙◌, subst, ap₂, arith, take_all}
use mathlib.Core.List.{reverse-append, map-append}
use lib.Seq.{take-append-le}
use Rattle.network.specs.declared.estimates.Bound.{Bound}
use Rattle.network.specs.declared.legs.Leg.{Leg}
use Rattle.network.specs.declared.legs.Network.{Network}
use Rattle.network.specs.Tariffs.{Terms}
use Rattle.queue.specs.declared.entry.Entry.{Entry}
use Rattle.worksheet.specs.declared.records.Label.{Label}
use Rattle.worksheet.specs.Problem.{Setting}
use Rattle.search.specs.declared.record.Search.{Search}
use Rattle.search.specs.declared.record.Verdict.{Verdict}
use Rattle.search.specs.Record.{fresh, verdict_on}
use Rattle.search.specs.Calls.{Worksheet, worksheet, setting}
use Rattle.promise.specs.declared.calls.Answer.{Answer}
use Rattle.promise.specs.declared.calls.Answer.TheVariants.{Told}
use Rattle.promise.specs.declared.calls.Call.{Call}
use Rattle.promise.specs.declared.calls.Call.TheVariants as call
use Rattle.promise.specs.declared.calls.Event.{Event}
use Rattle.promise.specs.declared.calls.Request.{Request}
use Rattle.promise.specs.Conduct.{Does, tells, Made, Conducted, begins, continues, calls_of}
use Rattle.promise.specs.Requests.{call_of}
use Rattle.promise.proofs.Promised.{calls_keep_the_promise, stops_are_deserved}

-- The front of a vector whose whole was lent and came back as b.
pub front_of : (j k n : ℕ) (b xs : List ℕ) → j ≡ k → length b ≡ n → take j (take n (b ++ drop (length b) xs)) ≡ take k b
front_of j k n b xs i e = ap₂ (λ (m : ℕ) (y : List ℕ). take m y) i (take-append-le n b (drop (length b) xs) (omega arith) ∙ take_all n b (omega arith))

-- What a call does, said of a request that equals it.
pub of_request : {s : Setting} {w u : Worksheet} {x : Answer} {r q : Request} → r ≡ q → Does s w (call_of q) x u → Does s w (call_of r) x u
of_request {s = s} {w = w} {u = u} {x = x} e does = subst (λ (y : Request). Does s w (call_of y) x u) (sym e) does

pub tells_verdict : {s : Setting} {w : Worksheet} (v : Verdict) → v ≡ verdict_on w → Does s w call.Verdict (Told v) w
tells_verdict {s = s} {w = w} v e = subst (λ (y : Verdict). Does s w call.Verdict (Told y) w) (sym e) tells

-- The tables and the queue keep their sizes.
pub resized : (net : Network) (table : List Leg) (t : Terms) (at : ℕ → Option Bound) (ls ks : List Label) (xs ys : List ℕ) (n m : ℕ) → length ls ≡ length ks → length xs ≡ length ys → n ≡ m → (w u : Worksheet) (c : Call) (x : Answer)
    → Does (setting net table t at ls xs n) w c x u → Does (setting net table t at ks ys m) w c x u
resized net table t at ls ks xs ys n m labels least room w u c x does = subst (λ (s : Setting). Does s w c x u) same does
  where
    same : setting net table t at ls xs n ≡ setting net table t at ks ys m
    same = rw (labels, least, room)

-- How far the calls have come: those asked for in `done` are made and have left these events, and the queue keeps its room.
pub record Conducting (s : Setting) (w₀ : Worksheet) (done : List Request) (room : ℕ) (w : Worksheet) (events : List Event) : Type 0 where
  pub same_room : room ≡ s.capacity
  pub in_order : calls_of events ≡ map call_of done
  pub conducted : Conducted s w₀ w (reverse events)

-- A worksheet with a fresh search record.
pub made_of : (net : Network) (table : List Leg) (t : Terms) (at : ℕ → Option Bound) (labels : List Label) (least : List ℕ) (room : ℕ) (bag : List Entry) → Made (setting net table t at labels least room) (worksheet fresh labels least bag)
made_of net table t at labels least room bag = record { search_is_fresh = refl; labels_counted = refl }

-- Before the first call.
pub conducted_none : (s : Setting) (r : Search) (labels : List Label) (least : List ℕ) (bag : List Entry) (es : List Event) → r ≡ fresh → es ≡ [] → Conducted s (worksheet fresh labels least bag) (worksheet r labels least bag) (reverse es)
conducted_none s r labels least bag es e f =
    subst (λ (x : List Event). Conducted s (worksheet fresh labels least bag) (worksheet r labels least bag) (reverse x)) (sym f)
    (subst (λ (x : Search). Conducted s (worksheet fresh labels least bag) (worksheet x labels least bag) []) (sym e) begins)

-- One call more, and its event at the end.
pub conducted_more : (s : Setting) (w₀ w u : Worksheet) (es fs : List Event) (c d : Call) (x : Answer) (v : Verdict) → Conducted s w₀ w (reverse es) → c ≡ d → Does s w d x u → v ≡ verdict_on u → fs ≡ es ++ (record { call = c; answer = x; after = v } ∷ []) → Conducted s w₀ u (reverse fs)
conducted_more s w₀ w u es fs c d x v cd same does e f =
    let last : Event = record { call = c; answer = x; after = v } in
    let events : reverse fs ≡ last ∷ reverse es = ap (λ (y : List Event). reverse y) f ∙ reverse-append es (last ∷ []) in
    let made : Does s w c x u = subst (λ (y : Call). Does s w y x u) (sym same) does in
    subst (λ (y : List Event). Conducted s w₀ u y) (sym events) (subst (λ (z : Verdict). Conducted s w₀ u (record { call = c; answer = x; after = z } ∷ reverse es)) (sym e) (continues cd c x u made))

-- The calls of the events, one more.
pub calls_more : (es fs : List Event) (x : Event) (done : List Request) (r : Request) → calls_of es ≡ map call_of done → fs ≡ es ++ (x ∷ []) → x.call ≡ call_of r → calls_of fs ≡ map call_of (done ++ (r ∷ []))
calls_more es fs x done r e f g =
    ap calls_of f ∙ map-append (λ (z : Event). z.call) es (x ∷ [])
    ∙ ap₂ (λ (y : List Call) (z : Call). y ++ (z ∷ [])) e g ∙ sym (map-append call_of done (r ∷ []))

-- what `conduct` needs of each call, and of all
pub ruleset call_by_call = (made_of, conducted_none, calls_keep_the_promise, stops_are_deserved)

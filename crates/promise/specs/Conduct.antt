-- What calls do to a worksheet, one after another, and that their history keeps the promise. Assumes nothing.
use Rattle.std.specs.Prelude.{◌≡◌, ℕ, ◌<◌, List, [], ◌∷◌, map, length, take, Ok, Err, vec_items, Result, OnOk}
use Rattle.std.specs.Global.{Vec}
use Rattle.std.specs.declared.alloc.AllocError.{AllocError}
use Rattle.network.specs.declared.legs.Leg.{Leg}
use Rattle.network.specs.declared.legs.Network.{Network}
use Rattle.network.specs.declared.refusals.Refusal.{Refusal}
use Rattle.network.specs.declared.refusals.Stop.{Stop}
use Rattle.network.specs.Tariffs.{Lawful}
use Rattle.queue.specs.declared.entry.Entry.{Entry}
use Rattle.worksheet.specs.declared.records.Label.{Label}
use Rattle.worksheet.specs.declared.records.Phase.TheVariants.{Stopped}
use Rattle.worksheet.specs.declared.records.Query.{Query}
use Rattle.worksheet.specs.Problem.{Setting, problem}
use Rattle.worksheet.specs.Series.{Full}
use Rattle.search.specs.declared.record.Search.{Search}
use Rattle.search.specs.Record.{fresh, search_of, verdict_on}
use Rattle.search.specs.Calls.{Worksheet, worksheet, CostsFit, outcome, opening, advancing, traced, tracing}
use Rattle.promise.specs.declared.calls.Answer.{Answer}
use Rattle.promise.specs.declared.calls.Answer.TheVariants.{Opened, Advanced, Told, Traced}
use Rattle.promise.specs.declared.calls.Call.{Call}
use Rattle.promise.specs.declared.calls.Call.TheVariants as call
use Rattle.promise.specs.declared.calls.Event.{Event}
use Rattle.promise.specs.declared.calls.Request.{Request}
use Rattle.promise.specs.Promise.{Promise}
use Rattle.promise.specs.Requests.{call_of}

-- The answer x gives what trace answered, r: the legs that it wrote at the start of the buffer b, or its refusal.
abbrev pub Gives : Result ℕ Refusal → List ℕ → Result (Vec ℕ) Refusal → Type 0
Gives (Ok n) b (Ok legs) = vec_items legs ≡ take n b
Gives (Ok n) b (Err why) = ⊥
Gives (Err why) b (Ok legs) = ⊥
Gives (Err why) b (Err x) = x ≡ why

-- The answer x is that of trace into some buffer of n records.
pub record TracedInto (net : Network) (table : List Leg) (r : Search) (labels : List Label) (n : ℕ) (x : Result (Vec ℕ) Refusal) : Type 0 where
  pub before : List ℕ
  pub after : List ℕ
  pub answer : Result ℕ Refusal
  pub size : length before ≡ n
  pub writes : traced answer after ≡ tracing net table r labels before
  pub gives : Gives answer after x

-- What a call on the worksheet w is answered, and the worksheet after it. Where an open is accepted, the estimate's costs have 64
-- bits wherever the search asks for one: in code a `Bound` holds no other, and `open`'s clause `estimates_fit` says it of every
-- estimate.
pub data Does (s : Setting) (w : Worksheet) : Call → Answer → Worksheet → Type 0 where
  opens : (q : Query) (r : Result Unit Refusal) (u : Worksheet) → outcome r u ≡ opening s q w → OnOk r (CostsFit (problem s q))
      → Does s w (call.Open q) (Opened r) u
  advances : (k : ℕ) (r : Result ℕ Refusal) (u : Worksheet) → outcome r u ≡ advancing s k w → Does s w (call.Advance k) (Advanced r) u
  tells : Does s w call.Verdict (Told (verdict_on w)) w
  traces : (n : ℕ) (x : Result (Vec ℕ) Refusal) → TracedInto s.net s.table (search_of w) w.state.labels n x → Does s w (call.Trace n) (Traced x) w

-- A worksheet whose search record is as it was made, and whose other parts hold anything, with as many label records as the
-- setting says.
pub record Made (s : Setting) (w : Worksheet) : Type 0 where
  pub search_is_fresh : search_of w ≡ fresh
  pub labels_counted : length w.state.labels ≡ s.labels

-- By the calls of the history h, and by nothing else, the worksheet w₀ came to w.
pub data Conducted (s : Setting) (w₀ : Worksheet) : Worksheet → List Event → Type 0 where
  begins : Conducted s w₀ w₀ []
  continues : {w : Worksheet} {h : List Event} → Conducted s w₀ w h → (c : Call) (x : Answer) (u : Worksheet) → Does s w c x u
      → Conducted s w₀ u (record { call = c; answer = x; after = verdict_on u } ∷ h)

-- A search that stands stopped on the worksheet w has used up what its number says: by 16 all label records are written, by 17
-- the queue holds its capacity. By 15 it never stops.
abbrev pub StoppedMeansFull : Setting → Worksheet → Type 0
StoppedMeansFull s w = (why : Stop) → w.state.phase ≡ Stopped why → Full s.capacity w.state why

-- From a fresh search record and these label records, least-delay records and bag, the calls of the history h left those, and a
-- search that they left stopped is stopped at a full table. Which search record they left is not said.
abbrev pub Leaves : Setting → List Label → List ℕ → List Entry → List Event → List Label → List ℕ → List Entry → Type 0
Leaves s labels least bag h labels' least' bag' =
    (x : Search) × Conducted s (worksheet fresh labels least bag) (worksheet x labels' least' bag') h × StoppedMeansFull s (worksheet x labels' least' bag')

-- The calls of the events.
abbrev pub calls_of : List Event → List Call
calls_of es = map (λ (e : Event). e.call) es

-- All calls that were asked for were made, in their order; or none was, as there was room for fewer events than that.
abbrev pub Makes : ℕ → List Request → Result Unit AllocError → List Event → Type 0
Makes room asked (Ok u) es = calls_of es ≡ map call_of asked
Makes room asked (Err e) es = (es ≡ []) × (room < length asked)

-- Whatever calls are made, under a lawful tariff and any estimate, on tables and a queue of any size that hold anything, their
-- history keeps the promise. That the costs which a search asks for have 64 bits is taken from the calls themselves (`Does`).
abbrev pub CallsKeepThePromise : Type 0
CallsKeepThePromise = (s : Setting) → Lawful s.terms → (w₀ : Worksheet) → Made s w₀ → (w : Worksheet) (h : List Event) → Conducted s w₀ w h → Promise s h

-- Nor is a search ever stopped while there is room. Each beginning of a list of calls is a list of calls, so that this holds after
-- every call.
abbrev pub StopsAreDeserved : Type 0
StopsAreDeserved = (s : Setting) → Lawful s.terms → (w₀ : Worksheet) → Made s w₀ → (w : Worksheet) (h : List Event) → Conducted s w₀ w h → StoppedMeansFull s w

-- What a history of calls tells: the list of its events, the last first. Assumes nothing.
use Rattle.std.specs.Prelude.{ℕ, suc, ◌+◌, Bool, true, List, [], ◌∷◌, is_ok, Some, None, Option}
use Rattle.worksheet.specs.declared.records.Query.{Query}
use Rattle.search.specs.declared.record.Standing.TheVariants as standing
use Rattle.search.specs.declared.record.Verdict.{Verdict}
use Rattle.promise.specs.declared.calls.Answer.{Answer}
use Rattle.promise.specs.declared.calls.Answer.TheVariants.{Opened, Advanced, Told, Traced}
use Rattle.promise.specs.declared.calls.Call.{Call}
use Rattle.promise.specs.declared.calls.Call.TheVariants as call
use Rattle.promise.specs.declared.calls.Event.{Event}

-- The call was not refused.
abbrev pub is_accepted : Answer → Bool
is_accepted (Opened r) = is_ok r
is_accepted (Advanced r) = is_ok r
is_accepted (Told v) = true
is_accepted (Traced r) = is_ok r

-- The verdict on a search that was never opened.
abbrev pub never_opened : Verdict
never_opened = record { standing = standing.Fresh; steps = 0 }

-- The verdict after a history.
abbrev pub verdict_after : List Event → Verdict
verdict_after [] = never_opened
verdict_after (e ∷ before) = e.after

-- The question after a call, accepted or not, by the question before it.
abbrev pub question_by : Call → Bool → Option Query → Option Query
question_by (call.Open q) true o = Some q
question_by c b o = o

-- The question of the last accepted open.
abbrev pub question : List Event → Option Query
question [] = None
question (e ∷ before) = question_by e.call (is_accepted e.answer) (question before)

-- The steps allowed after a call, by those before it.
abbrev pub allowed_by : Call → Bool → ℕ → ℕ
allowed_by (call.Open q) true n = 0
allowed_by (call.Advance k) true n = n + k
allowed_by c b n = n

-- The steps that accepted advances were allowed in all since the last accepted open.
abbrev pub allowed : List Event → ℕ
allowed [] = 0
allowed (e ∷ before) = allowed_by e.call (is_accepted e.answer) (allowed before)

-- The searches begun after a call, by those before it.
abbrev pub searches_by : Call → Bool → ℕ → ℕ
searches_by (call.Open q) true n = suc n
searches_by c b n = n

-- How many searches were begun. Each has its number by that, and one route.
abbrev pub searches : List Event → ℕ
searches [] = 0
searches (e ∷ before) = searches_by e.call (is_accepted e.answer) (searches before)

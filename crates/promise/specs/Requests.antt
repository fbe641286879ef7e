-- Which call is asked for. Assumes nothing.
use Rattle.std.specs.Prelude.{vec_len}
use Rattle.promise.specs.declared.calls.Call.{Call}
use Rattle.promise.specs.declared.calls.Call.TheVariants as call
use Rattle.promise.specs.declared.calls.Request.{Request}
use Rattle.promise.specs.declared.calls.Request.TheVariants as request

-- A trace is into as many records as the buffer has that comes with it.
abbrev pub call_of : Request → Call
call_of (request.Open q) = call.Open q
call_of (request.Advance k) = call.Advance k
call_of request.Verdict = call.Verdict
call_of (request.Trace buffer) = call.Trace (vec_len buffer)

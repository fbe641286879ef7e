use Rattle.std.proofs.Common.{refl}
use Rattle.embed.specs.Texts.{wants_memory}
use Rattle.embed.proofs.Putting.{is_reported}
use Rattle.embed.proofs.reporting.deqibur_plan_sheet.Goals as goal

pub returns-in_default : goal.returns-in_default
returns-in_default c = wants_memory refl

pub returns : goal.returns
returns c = is_reported _ _ _ _ _ _ _ _ (rw c.of.ensures at c.in-Ok.ensures) c.deref.ensures.value c.put_text.ensures.answer c.put_text.ensures.after

use Rattle.std.proofs.Common.{◌∙◌}
use Rattle.jiff_core.proofs.DateLemmas.{days_from_civil-max}
use Rattle.demo_keys.proofs.day.DayInteger.max_value.Goals as goal

pub returns : goal.returns
returns c = c.from.ensures ∙ days_from_civil-max

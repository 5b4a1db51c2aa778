use Rattle.std.proofs.Common.{◌∙◌}
use Rattle.jiff_core.proofs.DateLemmas.{days_from_civil-min}
use Rattle.demo_keys.proofs.day.DayInteger.min_value.Goals as goal

pub returns : goal.returns
returns c = c.from.ensures ∙ days_from_civil-min

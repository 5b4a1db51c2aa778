use Rattle.blaze_streams.proofs.Words.{rules}
use Rattle.blaze_streams.proofs.events.sweep_event.SweepEvent.instant.Goals as goal

pub returns-in-Start : goal.returns-in-Start
returns-in-Start g c = search rules

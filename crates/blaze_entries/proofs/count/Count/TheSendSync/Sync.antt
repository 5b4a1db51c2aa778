-- A count owns nothing, so any thread may share it.
use denote.Param.Send.{IsSync, part_keyless}
use Rattle.blaze_entries.specs.contracts.count.Count.{the_row}
use Rattle.blaze_entries.proofs.count.Count.TheSendSync.Send.{send}

pub sync : IsSync the_row
sync = record { shared = λ d b o κ q. part_keyless the_row send q d b o }

-- A count owns nothing, so it may go to any thread.
use denote.Param.Send.{IsSend, sendable}
use Rattle.blaze_entries.specs.contracts.count.Count.{the_row}

pub send : IsSend the_row
send = search sendable depth 20

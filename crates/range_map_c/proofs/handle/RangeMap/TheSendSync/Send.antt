-- A map may go to another thread: it owns nothing, or a box of a map of plain data.
use mir.Raw.{raw}
use base.Shift.{Keyless}
use denote.Memory.{lone}
use denote.RawPtr.{Ptr, null_ptr, block_ptr}
use denote.Struct.Struct.{exits_of}
use denote.Struct.Owning.{shape, fields, to}
use denote.Param.Send.{IsSend, AllSend, owning_send, struct_send, sendable}
use Rattle.std.proofs.Crossing as heap
use Rattle.std.specs.Global.{Global}
use Rattle.std_alloc.proofs.SendSync.{quiet, lies}
use Rattle.std_heap.proofs.Global.TheSendSync as handle
use Rattle.range_map_c.proofs.handle.Map.TheSendSync as held
use Rattle.range_map_c.specs.Handle.{Entries, handle_owns}
use Rattle.range_map_c.specs.contracts.handle.Map as Map
use Rattle.range_map_c.specs.contracts.handle.RangeMap.{the_row, the_type}

map : IsSend Map.the_row
map = held.the_send

owned : (a : Global) (p : Ptr) (es : Entries) → Keyless (handle_owns a p es)
owned a null_ptr es = tt
owned a (block_ptr b o) es = λ x. (tt, (lies Map.the_row map (block_ptr b o) x, heap.frees.frees a (raw (lone Map.the_row.mir)) (block_ptr b o)))

pub send : IsSend the_row
send =
    let all : AllSend (fields the_type) = (search sendable, (handle.the_field_send, tt)) in
    owning_send the_type all (λ d. owned d.alloc d.at d.entries)
    (λ k. quiet (to the_type) (exits_of k (fields the_type)) ((struct_send (shape the_type) all).leaving k))

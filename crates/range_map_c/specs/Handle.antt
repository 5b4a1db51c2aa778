-- The memory that a `RangeMap` owns, and the numbers in its contracts.
use base.Fml.{Fml, feq, fex, fsep}
use base.Stored.{Coded}
use denote.RawPtr.{Ptr, null_ptr, block_ptr}
use Rattle.std.specs.Prelude.{ℕ, ℤ, pos, negsuc, ◌-◌, ◌^◌, List, []}
use Rattle.std.specs.Coded.{coded_list, coded_ℕ}
use Rattle.std.specs.Global.{Global}
use Rattle.std.specs.Box.Ownership.{box_owns}
use Rattle.std_heap.specs.contracts.GlobalAllocator.TheImpl.{ghosts}
use Rattle.blaze_entries.specs.Entries.{Entry, entry_code}
use Rattle.range_map_c.specs.contracts.handle.Map.{the_row}

-- the entries of a map, ascending, which contracts see
abbrev pub Entries : Type 0
Entries = List (Entry ℕ)

abbrev pub entries_code : Coded Entries
entries_code = coded_list (entry_code coded_ℕ)

abbrev pub row_entries : the_row.Denot → Entries
row_entries x = x.map.entries

-- the memory that a box of a map at the pointer owns
abbrev pub box_of_map : Global → Ptr → the_row.Denot → Fml
box_of_map alloc = box_owns (ghosts.dealloc_token alloc) the_row

-- nothing at null, with no entries, and otherwise the memory of a box of a map with the entries
abbrev pub handle_owns : Global → Ptr → Entries → Fml
handle_owns alloc null_ptr es = feq Entries es []
handle_owns alloc (block_ptr b o) es = fex the_row.Denot (λ x. fsep (feq Entries es (row_entries x)) (box_of_map alloc (block_ptr b o) x))

abbrev pub least_key : ℤ
least_key = negsuc (2 ^ 63 - 1)

abbrev pub greatest_key : ℤ
greatest_key = pos (2 ^ 63 - 1)

-- The text of an entry, and a text that may be known.
use Rattle.range_map_blaze.proofs.Words.{◌≡◌, ℕ, List, ℤ, refl, Option, Some, None, codes, ◌++?◌, IfSome, Entry, entry_text}

-- an entry's text by its two keys
pub entry_shown : {K V : Type 0} (key_text : K → Option (List ℕ)) (of_rank : ℤ → K) (value_text : V → Option (List ℕ)) (e : Entry V) (start last : K) → of_rank e.lo ≡ start → of_rank e.hi ≡ last
    → entry_text key_text of_rank value_text e ≡ Some (codes "(") ++? key_text start ++? Some (codes "..=") ++? key_text last ++? Some (codes ", ") ++? value_text e.value ++? Some (codes ")")
entry_shown key_text of_rank value_text e start last p q = rw (p, q) refl

-- what holds of each text that is the known one holds where it is known
pub where_known : (text : Option (List ℕ)) (P : List ℕ → Type 0) → ((bs : List ℕ) → text ≡ Some bs → P bs) → IfSome text P
where_known None P f = tt
where_known (Some bs) P f = f bs refl

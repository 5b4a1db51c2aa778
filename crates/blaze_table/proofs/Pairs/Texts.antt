-- Texts of which some parts may be unknown.
use Rattle.blaze_table.proofs.Words.{◌≡◌, ℕ, List, ◌++◌, ℤ, refl, Option, Some, None, codes, option_append, ◌++?◌, Entry, range_text}

-- if two texts together are known, each of them is
pub split_some : (o p : Option (List ℕ)) (c : List ℕ) → option_append o p ≡ Some c → (a b : List ℕ) × (o ≡ Some a) × (p ≡ Some b) × (a ++ b ≡ c)
split_some None p c h = absurd (cc)
split_some (Some a) None c h = absurd (cc)
split_some (Some a) (Some b) c h = (a, b, refl, refl, cc)

-- a range's text by its two keys
pub range_shown : {K : Type 0} (key_text : K → Option (List ℕ)) (of_rank : ℤ → K) (e : Entry (Unit {0})) (start last : K) → of_rank e.lo ≡ start → of_rank e.hi ≡ last
    → range_text key_text of_rank e ≡ key_text start ++? Some (codes "..=") ++? key_text last
range_shown key_text of_rank e start last p q = rw (p, q) refl

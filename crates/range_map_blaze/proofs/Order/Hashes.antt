-- The writes of one entry.
use Rattle.range_map_blaze.proofs.Words.{◌≡◌, ℕ, List, ◌++◌, refl, fed_then, fold}

-- three writes, and then the rest
pub fed_entry : {S : Type 0} (write : S → List ℕ → S) (s t u v : S) (start end value rest : List (List ℕ)) → t ≡ fold write s start → u ≡ fold write t end → v ≡ fold write u value → fold write v rest ≡ fold write s ((start ++ end ++ value) ++ rest)
fed_entry write s t u v start end value rest p q r =
    fed_then write s v (fold write v rest) (start ++ end ++ value) rest (fed_then write s u v (start ++ end) value (fed_then write s t u start end p q) r) refl

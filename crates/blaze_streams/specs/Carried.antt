-- The values that carriers represent.
use Rattle.std.specs.Prelude.{◌≡◌, ◌⊎◌, Option, Some, None}

-- the value of an option of a carrier, or `None` if the option is `None`
abbrev pub shown_option : {C V : Type 0} → (C → V) → Option C → Option V
shown_option shown None = None
shown_option shown (Some c) = Some (shown c)

-- the values of a pair of options of carriers
abbrev pub shown_pair : {C D A B : Type 0} → (C → A) → (D → B) → Option C × Option D → Option A × Option B
shown_pair left right p = (shown_option left p.0, shown_option right p.1)

-- both options are `None`, or both have values that are related by R
abbrev pub AreOptions : {A B : Type 0} → (A → B → Type 0) → Option A → Option B → Type 0
AreOptions R None None = Unit {0}
AreOptions R None (Some y) = ⊥
AreOptions R (Some x) None = ⊥
AreOptions R (Some x) (Some y) = R x y

-- the value itself, or one that `carry` may represent for it
abbrev pub IsItOrCarried : {V : Type 0} → (V → V → Type 0) → V → V → Type 0
IsItOrCarried is_carried v w = (w ≡ v) ⊎ is_carried v w

-- for each of two options: the value itself, or one that `carry` may represent for it
abbrev pub ArePairsCarried : {A B : Type 0} → (A → A → Type 0) → (B → B → Type 0) → Option A × Option B → Option A × Option B → Type 0
ArePairsCarried left right p q = AreOptions (IsItOrCarried left) p.0 q.0 × AreOptions (IsItOrCarried right) p.1 q.1

-- Counted entries after an edit, as contracts see them.
use Rattle.blaze_entries.proofs.Words.{◌≡◌, ℕ, ◌+◌, List, ap, subst, ◌∙◌, Entry, CountedEntries, uncounted}

abbrev pub counted : {V : Type 0} → List (Entry V) → ℕ → ℕ → ℕ → CountedEntries V
counted es a b c = record { entries = es; looks = a; put_in = b; taken_out = c }

module _ {V : Type 0} (f : List (Entry V) → List (Entry V)) (s : CountedEntries V) (a b c : ℕ) (old new : List (Entry V)) (was : counted old a b c ≡ s) (e : new ≡ f old) where
  pub edited : counted new a b c ≡ record s { entries = f s.entries }
  edited = subst (λ (t : CountedEntries V). counted new a b c ≡ record t { entries = f t.entries }) was (ap (λ es. counted es a b c) e)

  pub put_in : (p : ℕ) → p ≡ b + 1 → counted new a p c ≡ record s { entries = f s.entries; put_in = s.put_in + 1 }
  put_in p q =
      subst (λ (t : CountedEntries V). counted new a p c ≡ record t { entries = f t.entries; put_in = t.put_in + 1 }) was
      (ap (λ es. counted es a p c) e ∙ ap (λ n. counted (f old) a n c) q)

  pub taken_out : (t : ℕ) → t ≡ c + 1 → counted new a b t ≡ record s { entries = f s.entries; taken_out = s.taken_out + 1 }
  taken_out t q =
      subst (λ (r : CountedEntries V). counted new a b t ≡ record r { entries = f r.entries; taken_out = r.taken_out + 1 }) was
      (ap (λ es. counted es a b t) e ∙ ap (λ n. counted (f old) a b n) q)

-- entries with all counters at 0
pub begun : {V : Type 0} (es fs : List (Entry V)) (a b c : ℕ) → es ≡ fs → a ≡ 0 → b ≡ 0 → c ≡ 0 → counted es a b c ≡ uncounted fs
begun es fs a b c e p q r = ap (λ x. counted x a b c) e ∙ ap (λ x. counted fs x b c) p ∙ ap (λ x. counted fs 0 x c) q ∙ ap (λ x. counted fs 0 0 x) r

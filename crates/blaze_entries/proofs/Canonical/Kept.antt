-- Part of a canonical list is canonical, and a part with as many entries is the whole list.
use Rattle.blaze_entries.proofs.Words.{◌≡◌, ◌≤◌, ℤ, ◌<ℤ◌, Bool, true, false, List, [], ◌∷◌, length, refl, ◌∙◌, sym, ap, subst, arith, items_where_true, IsFiltered, ints, Entry, IsApart, IsCanonical, AreKeys}

module _ {V : Type 0} (eq : V → V → Bool) where
  apart_far : (e f : Entry V) (bs : List Bool) (fs : List (Entry V)) → e.hi <ℤ f.lo → IsCanonical eq (f ∷ fs) → IsApart eq e (items_where_true bs fs)
  apart_far e f [] fs l c = tt
  apart_far e f (b ∷ bs) [] l c = tt
  apart_far e f (true ∷ bs) (g ∷ fs) l c = (omega (arith, ints, c.0, c.1.0), λ p. absurd (omega (arith, ints, c.0, c.1.0)))
  apart_far e f (false ∷ bs) (g ∷ fs) l c = apart_far e g bs fs (omega (arith, ints, c.0, c.1.0)) c.2

  apart_kept : (e : Entry V) (bs : List Bool) (es : List (Entry V)) → IsCanonical eq (e ∷ es) → IsApart eq e (items_where_true bs es)
  apart_kept e [] es c = tt
  apart_kept e (b ∷ bs) [] c = tt
  apart_kept e (true ∷ bs) (f ∷ fs) c = c.1
  apart_kept e (false ∷ bs) (f ∷ fs) c = apart_far e f bs fs c.1.0 c.2

  pub canonical_kept : (bs : List Bool) (es : List (Entry V)) → IsCanonical eq es → IsCanonical eq (items_where_true bs es)
  canonical_kept [] es c = tt
  canonical_kept (b ∷ bs) [] c = tt
  canonical_kept (true ∷ bs) (e ∷ es) c = (c.0, apart_kept e bs es c, canonical_kept bs es c.2)
  canonical_kept (false ∷ bs) (e ∷ es) c = canonical_kept bs es c.2

  pub are_keys_kept : (low high : ℤ) (bs : List Bool) (es : List (Entry V)) → AreKeys low high es → AreKeys low high (items_where_true bs es)
  are_keys_kept low high [] es a = tt
  are_keys_kept low high (b ∷ bs) [] a = tt
  are_keys_kept low high (true ∷ bs) (e ∷ es) a = (a.0, a.1, are_keys_kept low high bs es a.2)
  are_keys_kept low high (false ∷ bs) (e ∷ es) a = are_keys_kept low high bs es a.2

module _ {F V : Type 0} (eq : V → V → Bool) where
  pub canonical_filtered : (R : F → Entry V → Bool → F → Type 0) (f : F) (old new : List (Entry V)) → IsFiltered R f old new → IsCanonical eq old → IsCanonical eq new
  canonical_filtered R f old new h c = subst (IsCanonical eq) (sym h.4) (canonical_kept eq h.0 old c)

  pub are_keys_filtered : (low high : ℤ) (R : F → Entry V → Bool → F → Type 0) (f : F) (old new : List (Entry V)) → IsFiltered R f old new → AreKeys low high old → AreKeys low high new
  are_keys_filtered low high R f old new h a = subst (AreKeys low high) (sym h.4) (are_keys_kept eq low high h.0 old a)

module _ {V : Type 0} where
  no_more_kept : (bs : List Bool) (es : List (Entry V)) → length (items_where_true bs es) ≤ length es
  no_more_kept [] es = omega arith
  no_more_kept (b ∷ bs) [] = omega arith
  no_more_kept (true ∷ bs) (e ∷ es) = omega (arith, no_more_kept bs es)
  no_more_kept (false ∷ bs) (e ∷ es) = omega (arith, no_more_kept bs es)

  all_kept : (bs : List Bool) (es : List (Entry V)) → length (items_where_true bs es) ≡ length es → items_where_true bs es ≡ es
  all_kept [] [] q = refl
  all_kept [] (e ∷ es) q = absurd (omega arith)
  all_kept (b ∷ bs) [] q = refl
  all_kept (true ∷ bs) (e ∷ es) q = ap (λ l. e ∷ l) (all_kept bs es (omega arith))
  all_kept (false ∷ bs) (e ∷ es) q = absurd (omega (arith, no_more_kept bs es))

  pub all_filtered : {F : Type 0} (R : F → Entry V → Bool → F → Type 0) (f : F) (old new : List (Entry V)) → IsFiltered R f old new → length new ≡ length old → new ≡ old
  all_filtered R f old new h q = h.4 ∙ all_kept h.0 old (ap length (sym h.4) ∙ q)

-- The segments of lists, one after another, and those of them that a join is asked for.
use Rattle.range_map_multi.proofs.Words.{◌≡◌, ℕ, zero, suc, ◌<◌, ℤ, pos, ◌+ℤ◌, ◌≤ℤ◌, ◌<ℤ◌, Bool, true, false, cond, List, [], ◌∷◌, ◌++◌, Option, Some, None, refl, ◌∙◌, sym, ap, subst, append_assoc, append-nil, arith, ⊎_elim, is_some, option_or, list_any, IsEquivalence, lists_equiv, options_equiv, ints, by_bool, or_none, Entry, entry, at, holds, IsApart, IsCanonical, AreKeys, are_keys_after, IsAbove, IsAbove-from_apart, at_in, at_under, at_over, at_before, by_place, one_per_run, first_key, steady_to, AllCanonical, first_keys, all_steady_to, all_after, IsNextSegment, row, row_if_any, row_eq, IsFound, found_none, found_more, next_less, row_if_any-none, all_lengths_left, lesser_one, steady_none, none_left, all_canonical_after, same_some, stops_steady, asked_row, IsJoinOfMany}

by_option : {A P : Type 0} (o : Option A) → (o ≡ None → P) → ((x : A) → o ≡ Some x → P) → P
by_option None f g = f refl
by_option (Some x) f g = g x refl

none_some : {A P : Type 0} (o : Option A) (x : A) → o ≡ None → o ≡ Some x → P
none_some None x p q = cc
none_some (Some y) x p q = cc

-- ---- entries whose values a test keeps

module _ {V : Type 0} (q : V → Bool) where
  abbrev pub entries_where : List (Entry V) → List (Entry V)
  entries_where [] = []
  entries_where (e ∷ es) = cond (q e.value) (e ∷ entries_where es) (entries_where es)

  -- a value that the test keeps
  abbrev pub keeps : Option V → Option V
  keeps None = None
  keeps (Some v) = cond (q v) (Some v) None

  by_kept : (P : List (Entry V) → Type 0) (e : Entry V) (es : List (Entry V)) → P (e ∷ entries_where es) → P (entries_where es) → P (entries_where (e ∷ es))
  by_kept P e es x y = either (q e.value)
    where
      either : (b : Bool) → P (cond b (e ∷ entries_where es) (entries_where es))
      either true = x
      either false = y

  keys_kept : (low high : ℤ) (es : List (Entry V)) → AreKeys low high es → AreKeys low high (entries_where es)
  keys_kept low high [] k = tt
  keys_kept low high (e ∷ es) k = by_kept (AreKeys low high) e es (k.0, k.1, keys_kept low high es k.2) (keys_kept low high es k.2)

  module _ (eq : V → V → Bool) where
    far_kept : (e : Entry V) (b : ℤ) (es : List (Entry V)) → e.hi <ℤ b → IsAbove b es → IsCanonical eq es → IsApart eq e (entries_where es)
    far_kept e b [] l a c = tt
    far_kept e b (f ∷ fs) l a c = by_kept (IsApart eq e) f fs
        (omega (arith, ints, l, a), λ p. absurd (omega (arith, ints, l, a, p)))
        (far_kept e f.hi fs (omega (arith, ints, l, a, c.0)) (IsAbove-from_apart eq f fs c.1) c.2)

    apart_kept : (e : Entry V) (es : List (Entry V)) → IsCanonical eq (e ∷ es) → IsApart eq e (entries_where es)
    apart_kept e [] c = tt
    apart_kept e (f ∷ fs) c = by_kept (IsApart eq e) f fs c.1 (far_kept e f.hi fs (omega (arith, ints, c.1.0, c.2.0)) (IsAbove-from_apart eq f fs c.2.1) c.2.2)

    canonical_kept : (es : List (Entry V)) → IsCanonical eq es → IsCanonical eq (entries_where es)
    canonical_kept [] c = tt
    canonical_kept (e ∷ es) c = by_kept (IsCanonical eq) e es (c.0, apart_kept e es c, canonical_kept es c.2) (canonical_kept es c.2)

    at_kept : (es : List (Entry V)) (k : ℤ) → IsCanonical eq es → at (entries_where es) k ≡ keeps (at es k)
    at_kept [] k c = refl
    at_kept (e ∷ es) k c = by_bool (q e.value)
        (λ t. ap (λ b. at (cond b (e ∷ entries_where es) (entries_where es)) k) t ∙ either (holds e k) t (at_kept es k c.2))
        (λ f. ap (λ b. at (cond b (e ∷ entries_where es) (entries_where es)) k) f ∙ by_place e k
        (λ l h. at_kept es k c.2 ∙ ap keeps (at_before eq es e.hi k c.2 (IsAbove-from_apart eq e es c.1) h) ∙ sym (ap (λ b. cond b (Some e.value) None) f) ∙ ap keeps (sym (at_in e es k l h)))
        (λ l. at_kept es k c.2 ∙ ap keeps (sym (at_under e es k l)))
        (λ h. at_kept es k c.2 ∙ ap keeps (sym (at_over e es k h))))
      where
        either : (b : Bool) → q e.value ≡ true → at (entries_where es) k ≡ keeps (at es k) → cond b (Some e.value) (at (entries_where es) k) ≡ keeps (cond b (Some e.value) (at es k))
        either true t p = sym (ap (λ b. cond b (Some e.value) None) t)
        either false t p = p

-- ---- the segments of lists, one after another

module _ {A : Type 0} where
  abbrev pub AreSegments : List (List (Entry A)) → List (Entry (List (Option A))) → Type 0
  AreSegments Ls [] = first_keys Ls ≡ None
  AreSegments Ls (p ∷ ps) = IsNextSegment Ls p (all_after p.hi Ls) × AreSegments (all_after p.hi Ls) ps

  -- each range lies among the keys
  abbrev pub AllKeys : ℤ → ℤ → List (List (Entry A)) → Type 0
  AllKeys low high [] = Unit {0}
  AllKeys low high (L ∷ Ls) = AreKeys low high L × AllKeys low high Ls

  -- the first segment is the first of those that there are
  pub next_is : (Ls : List (List (Entry A))) (p : Entry (List (Option A))) (ps : List (Entry (List (Option A)))) → AreSegments Ls ps → IsNextSegment Ls p (all_after p.hi Ls)
      → (rest : List (Entry (List (Option A)))) × ((ps ≡ p ∷ rest) × AreSegments (all_after p.hi Ls) rest)
  next_is Ls p [] a n = none_some (first_keys Ls) p.lo a n.starts
  next_is Ls p (q ∷ qs) a n =
      let lo : q.lo ≡ p.lo = same_some q.lo p.lo (sym a.0.starts ∙ n.starts) in
      let hi : q.hi ≡ p.hi = same_some q.hi p.hi (sym a.0.ends ∙ ap (λ s. all_steady_to s Ls) lo ∙ n.ends) in
      let value : q.value ≡ p.value = a.0.has ∙ ap (row Ls) lo ∙ sym n.has in (
        qs,
        (
          ap (λ x. entry x q.hi q.value ∷ qs) lo ∙ ap (λ x. entry p.lo x q.value ∷ qs) hi ∙ ap (λ x. entry p.lo p.hi x ∷ qs) value,
          subst (λ t. AreSegments (all_after t Ls) qs) hi a.1,
        ),
      )

  pub none_is : (Ls : List (List (Entry A))) (ps : List (Entry (List (Option A)))) → AreSegments Ls ps → first_keys Ls ≡ None → ps ≡ []
  none_is Ls [] a f = refl
  none_is Ls (q ∷ qs) a f = none_some (first_keys Ls) q.lo f a.0.starts

  module _ (low high : ℤ) where
    first_among : (s : ℤ) (es : List (Entry A)) → AreKeys low high es → first_key es ≡ Some s → low ≤ℤ s
    first_among s [] k p = none_some None s refl p
    first_among s (e ∷ es) k p = let u : e.lo ≡ s = same_some e.lo s p in omega (arith, ints, k.0)

    firsts_among : (s : ℤ) (Ls : List (List (Entry A))) → AllKeys low high Ls → first_keys Ls ≡ Some s → low ≤ℤ s
    firsts_among s [] k p = none_some None s refl p
    firsts_among s (L ∷ Ls) k p = ⊎_elim (λ e. first_among s L k.0 e) (λ e. firsts_among s Ls k.1 e) (lesser_one (first_key L) (first_keys Ls) s p)

  module _ (eq : A → A → Bool) where
    steady_among : (low high s t : ℤ) (es : List (Entry A)) → IsCanonical eq es → AreKeys low high es → steady_to s es ≡ Some t → t ≤ℤ high
    steady_among low high s t [] c k p = none_some None t refl p
    steady_among low high s t (e ∷ es) c k p = ⊎_elim
        (λ (u : t ≡ e.hi). omega (arith, ints, u, k.1))
        (λ (u : e.lo ≡ t +ℤ pos 1). omega (arith, ints, u, k.1, c.0))
        (stops_steady s t (e ∷ es) p)

    all_steady_among : (low high s t : ℤ) (Ls : List (List (Entry A))) → AllCanonical eq Ls → AllKeys low high Ls → all_steady_to s Ls ≡ Some t → t ≤ℤ high
    all_steady_among low high s t [] c k p = none_some None t refl p
    all_steady_among low high s t (L ∷ Ls) c k p = ⊎_elim
        (λ e. steady_among low high s t L c.0 k.0 e) (λ e. all_steady_among low high s t Ls c.1 k.1 e)
        (lesser_one (steady_to s L) (all_steady_to s Ls) t p)

    all_keys_after : (low high t : ℤ) (Ls : List (List (Entry A))) → AllKeys low high Ls → AllKeys low high (all_after t Ls)
    all_keys_after low high t [] k = tt
    all_keys_after low high t (L ∷ Ls) k = (are_keys_after eq low high t L k.0, all_keys_after low high t Ls k.1)

    keys_segments : (low high : ℤ) (Ls : List (List (Entry A))) (ps : List (Entry (List (Option A)))) → AllCanonical eq Ls → AllKeys low high Ls → AreSegments Ls ps → AreKeys low high ps
    keys_segments low high Ls [] c k a = tt
    keys_segments low high Ls (p ∷ ps) c k a = (
      firsts_among low high p.lo Ls k a.0.starts,
      all_steady_among low high p.lo p.hi Ls c k a.0.ends,
      keys_segments low high (all_after p.hi Ls) ps (all_canonical_after eq p.hi Ls c) (all_keys_after low high p.hi Ls k) a.1,
    )

    pub segments_exist : (n : ℕ) (Ls : List (List (Entry A))) → AllCanonical eq Ls → all_lengths_left Ls < n → (ps : List (Entry (List (Option A)))) × AreSegments Ls ps
    segments_exist zero Ls c l = let no : ⊥ = omega (arith, l) in absurd no
    segments_exist (suc n) Ls c l = by_option (first_keys Ls)
        (λ none. ([], none))
        (λ s starts. by_option (all_steady_to s Ls)
        (λ none. ([], steady_none s Ls none))
        (λ t ends.
        let p : Entry (List (Option A)) = entry s t (row Ls s) in
        let next : IsNextSegment Ls p (all_after t Ls) = record { starts = starts; ends = ends; has = refl; left = refl } in
        let fewer = next_less eq Ls (all_after t Ls) p c next in
        let rest = segments_exist n (all_after t Ls) (all_canonical_after eq t Ls c) (omega (arith, fewer, l)) in
        (p ∷ rest.0, (next, rest.1))))

    module _ (laws : IsEquivalence eq) where
      found_through : (lists Ls : List (List (Entry A))) (out ps : List (Entry (List (Option A)))) → IsFound eq lists out Ls → AreSegments Ls ps
          → (rest : List (List (Entry A))) × (IsFound eq lists (out ++ ps) rest × (first_keys rest ≡ None))
      found_through lists Ls out [] f a = (Ls, (subst (λ l. IsFound eq lists l Ls) (sym (append-nil out)) f, a))
      found_through lists Ls out (p ∷ ps) f a =
          let r = found_through lists (all_after p.hi Ls) (out ++ p ∷ []) ps (found_more eq laws lists Ls out p (out ++ p ∷ []) (all_after p.hi Ls) f a.0 refl) a.1 in
          (r.0, (subst (λ l. IsFound eq lists l r.0) (append_assoc out (p ∷ []) ps) r.1.0, r.1.1))

      -- ---- those that a join is asked for

      asked_present : (asks : List (Option A) → Bool) (r : List (Option A)) → (asks r ≡ true → list_any is_some r ≡ true) → keeps asks (row_if_any r) ≡ asked_row asks r
      asked_present asks r h = by_bool (list_any is_some r)
          (λ t. ap (λ b. keeps asks (cond b (Some r) None)) t)
          (λ f. ap (λ b. keeps asks (cond b (Some r) None)) f ∙ by_bool (asks r)
          (λ t. let no : true ≡ false = sym (h t) ∙ f in cc)
          (λ u. sym (ap (λ b. cond b (Some r) None) u)))

      pub rows_equiv : IsEquivalence (row_eq eq)
      rows_equiv = lists_equiv (options_equiv laws)

      -- a join that is asked for no row in which nothing is there is asked for those of the segments that it keeps
      pub asked_segments : (low high : ℤ) (asks : List (Option A) → Bool) (lists : List (List (Entry A))) (ps : List (Entry (List (Option A)))) → AllCanonical eq lists → AllKeys low high lists → AreSegments lists ps
          → ((k : ℤ) → asks (row lists k) ≡ true → list_any is_some (row lists k) ≡ true) → IsJoinOfMany eq low high asks lists (entries_where asks ps)
      asked_segments low high asks lists ps c k a h =
          let r = found_through lists lists [] ps (found_none eq lists c) a in
          let f : IsFound eq lists ps r.0 = r.1.0 in
          record {
            range_map = record {
              runs = one_per_run (row_eq eq) rows_equiv (entries_where asks ps) (canonical_kept asks (row_eq eq) ps f.canonical);
              keys = keys_kept asks low high ps (keys_segments low high lists ps c k a);
            };
            content = λ j l m. at_kept asks (row_eq eq) ps j f.canonical
                ∙ ap (keeps asks) (sym (f.content j ∙ ap (option_or (at ps j)) (row_if_any-none (row r.0 j) (none_left r.0 j r.1.1)) ∙ or_none (at ps j)))
                ∙ asked_present asks (row lists j) (h j);
          }

-- A run of steps under way.
use Rattle.range_map_cli.proofs.Words.{◌≡◌, ℕ, zero, suc, ◌+◌, ◌-◌, ◌*◌, ◌≤◌, ℤ, Bool, List, [], ◌∷◌, ◌++◌, length, take, append-nil, append_assoc, refl, ⊎_elim, inl, inr, ◌<◌, ◌⊎◌, ◌∙◌, sym, ap, subst, arith, All, IsEquivalence, All-cons, All-head, All-tail, All-nil, take-append_seam, nil_from_length, same_itself, same_trans, at, SameOption, CountedEntries, IsRangeMap, IsCounted, PutsAtMost, counted_none, counted_then, content_after, after_all, answer, answers, IsCountedRun, IsEdit, IsRefusedAt, IsStepped, IsSteppedAll, SameAnswer, SameAnswers, Step, Answer}
use Rattle.std.proofs.lemmas.List.{length-append}
use Rattle.range_map_cli.proofs.Stepping.Alike.{after_alike, after_more, answer_alike, answer_trans, answers_more}

-- the work of n edits
pub record CountsEdits {V : Type 0} (n : ℕ) (old now : CountedEntries V) : Type 0 where
  pub counted : IsCounted old now
  pub puts : now.put_in ≤ old.put_in + 2 * n
  pub looks : now.looks + 2 * old.taken_out ≤ old.looks + 2 * now.taken_out + 6 * n

-- these steps are done, and this was answered
pub record IsRunning {T V L : Type 0} (eq : V → V → Bool) (rank : T → ℤ) (low high : ℤ) (done : List (Step T V L)) (old now : CountedEntries V) (given : List (Answer T V)) : Type 0 where
  pub stepped : IsSteppedAll eq rank low high done old.entries now.entries
  pub answered : SameAnswers rank eq given (answers rank low high done (at old.entries))
  pub counted : All IsEdit done → CountsEdits (length done) old now
  pub few : All IsEdit done → old.entries ≡ [] → length now.entries ≤ 2 * length done - 1

module _ {T V L : Type 0} where
  edits_front : (done rest : List (Step T V L)) → All IsEdit (done ++ rest) → All IsEdit done
  edits_front [] rest a = All-nil IsEdit
  edits_front (t ∷ done) rest a = All-cons IsEdit t done (All-head IsEdit t (done ++ rest) a) (edits_front done rest (All-tail IsEdit t (done ++ rest) a))

  edits_last : (done : List (Step T V L)) (s : Step T V L) → All IsEdit (done ++ s ∷ []) → IsEdit s
  edits_last [] s a = All-head IsEdit s [] a
  edits_last (t ∷ done) s a = edits_last done s (All-tail IsEdit t (done ++ s ∷ []) a)

  length_more : (done : List (Step T V L)) (s : Step T V L) → length (done ++ s ∷ []) ≡ length done + 1
  length_more [] s = refl
  length_more (t ∷ done) s = omega (arith, length_more done s)

module _ {T V L : Type 0} (eq : V → V → Bool) (laws : IsEquivalence eq) (rank : T → ℤ) (low high : ℤ) where
  pub running_none : (old : CountedEntries V) → IsRangeMap eq low high old.entries → IsRunning {L = L} eq rank low high [] old old []
  running_none old map = record {
    stepped = record { range_map = map; content = λ k. same_itself eq laws (at old.entries k) };
    answered = tt;
    counted = λ a. record { counted = counted_none old; puts = omega arith; looks = omega arith };
    few = λ a e. omega (arith, ap length e);
  }

  pub running_more : (done : List (Step T V L)) (s : Step T V L) (old now new : CountedEntries V) (given : List (Answer T V)) (a : Answer T V) → IsRunning eq rank low high done old now given
      → IsStepped eq rank low high s now.entries new.entries → SameAnswer rank eq a (answer rank low high s (at now.entries))
      → (IsEdit s → PutsAtMost 2 now new) → (IsEdit s → now.entries ≡ [] → length new.entries ≤ 1)
      → IsRunning eq rank low high (done ++ s ∷ []) old new (given ++ a ∷ [])
  running_more done s old now new given a r p q counts alone = record {
    stepped = record {
      range_map = p.range_map;
      content = λ k. subst (λ c. SameOption eq (at new.entries k) (c k)) (sym (after_more eq laws rank low high done s (at old.entries)))
          (same_trans eq laws (at new.entries k) (content_after rank low high s (at now.entries) k) (content_after rank low high s (after_all rank low high done (at old.entries)) k) (p.content k)
          (after_alike eq laws rank low high (at now.entries) (after_all rank low high done (at old.entries)) r.stepped.content s k));
    };
    answered = answers_more eq laws rank low high done s (at old.entries) given a r.answered
        (answer_trans eq laws rank a (answer rank low high s (at now.entries)) (answer rank low high s (after_all rank low high done (at old.entries))) q
        (answer_alike eq laws rank low high (at now.entries) (after_all rank low high done (at old.entries)) r.stepped.content s));
    counted = λ e.
        let before = r.counted (edits_front done (s ∷ []) e) in
        let step = counts (edits_last done s e) in
        let n = length_more done s in
        record {
          counted = counted_then old now new before.counted step.counted;
          puts = omega (arith, before.puts, step.puts, n);
          looks = omega (arith, before.looks, step.looks, n);
        };
    few = λ e none.
        let step = counts (edits_last done s e) in
        few_more (length done) (r.few (edits_front done (s ∷ []) e) none) (λ i. alone (edits_last done s e) (nil_from_length now.entries i))
        (omega (arith, step.puts, step.counted.balance, step.counted.taken)) (length_more done s);
  }
    where
      few_more : (n : ℕ) → length now.entries ≤ 2 * n - 1 → (length now.entries ≡ 0 → length new.entries ≤ 1) → length new.entries ≤ length now.entries + 2 → length (done ++ s ∷ []) ≡ n + 1
          → length new.entries ≤ 2 * length (done ++ s ∷ []) - 1
      few_more zero l i m e = omega (arith, e, i (omega (arith, l)))
      few_more (suc n) l i m e = omega (arith, l, m, e)

-- what is counted of edits
pub counted_run : {V : Type 0} (n : ℕ) (old now : CountedEntries V) → CountsEdits n old now → IsCountedRun n old now
counted_run n old now c = record {
  counted = c.counted;
  puts = c.puts;
  takes = omega (arith, c.puts, c.counted.balance);
  looks = omega (arith, c.puts, c.counted.balance, c.looks);
}

-- a refused edit behind edits
pub refused_counted : {T V L : Type 0} (eq : V → V → Bool) (rank : T → ℤ) (low high : ℤ) (done rest steps : List (Step T V L)) (s : Step T V L) (old now new : CountedEntries V) (given : List (Answer T V)) → steps ≡ done ++ s ∷ rest
    → IsRunning eq rank low high done old now given → (IsEdit s → IsCounted now new) → All IsEdit steps → IsCounted old new
refused_counted eq rank low high done rest steps s old now new given parts r counts all =
    let front : All IsEdit (done ++ s ∷ []) = edits_front (done ++ s ∷ []) rest (subst (All IsEdit) (parts ∙ sym (append_assoc done (s ∷ []) rest)) all) in
    counted_then old now new (r.counted (edits_front done (s ∷ []) front)).counted (counts (edits_last done s front))

-- a run that ends at a refused step
pub refused_at : {T V L : Type 0} (eq : V → V → Bool) (rank : T → ℤ) (low high : ℤ) (done rest steps : List (Step T V L)) (n : ℕ) (old now : CountedEntries V) (given : List (Answer T V)) → steps ≡ done ++ rest → n ≡ length done
    → (0 < length rest) ⊎ (n ≡ 0) → IsRunning eq rank low high done old now given → IsRefusedAt eq rank low high steps n old.entries now.entries
refused_at eq rank low high done rest steps n old now given parts len more r = record {
  within = ⊎_elim (λ l. inl (omega (arith, l, len, ap length parts ∙ length-append done rest))) inr more;
  stepped = subst (λ ss. IsSteppedAll eq rank low high ss old.entries now.entries) (sym (ap (λ ss. take n ss) parts ∙ ap (λ m. take m (done ++ rest)) len ∙ take-append_seam done rest)) r.stepped;
}

-- all steps are done where none is left
pub all_done : {T V L : Type 0} (eq : V → V → Bool) (rank : T → ℤ) (low high : ℤ) (done rest steps : List (Step T V L)) (old now : CountedEntries V) (given : List (Answer T V)) → steps ≡ done ++ rest → rest ≡ []
    → IsRunning eq rank low high done old now given → IsRunning eq rank low high steps old now given
all_done eq rank low high done rest steps old now given parts none r = subst (λ ss. IsRunning eq rank low high ss old now given) (sym (parts ∙ ap (λ ss. done ++ ss) none ∙ append-nil done)) r

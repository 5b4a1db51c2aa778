-- The work of edits, one after another.
use Rattle.blaze_table.proofs.Words.{◌≡◌, ℕ, ◌+◌, ◌≤◌, List, length, ◌∙◌, ap, arith, CountedEntries, Entry, IsWorked, IsCounted}

module _ {V : Type 0} where
  pub counted_none : (s : CountedEntries V) → IsCounted s s
  counted_none s = record { looks = omega arith; puts = omega arith; taken = omega arith; balance = omega arith }

  pub counted_then : (old mid new : CountedEntries V) → IsCounted old mid → IsCounted mid new → IsCounted old new
  counted_then old mid new a b = record {
    looks = omega (arith, a.looks, b.looks);
    puts = omega (arith, a.puts, b.puts);
    taken = omega (arith, a.taken, b.taken);
    balance = omega (arith, a.balance, b.balance);
  }

  -- only lookups
  pub counted_looked : (old new : CountedEntries V) → new ≡ record old { looks = new.looks } → old.looks ≤ new.looks → IsCounted old new
  counted_looked old new e more =
      let long = ap (λ (s : CountedEntries V). length s.entries) e in
      let puts = ap (λ (s : CountedEntries V). s.put_in) e in
      let taken = ap (λ (s : CountedEntries V). s.taken_out) e in
      record { looks = more; puts = omega (arith, puts); taken = omega (arith, taken); balance = omega (arith, long, puts, taken) }

  -- entries are changed, and their number is the same
  pub counted_edited : (old new : CountedEntries V) (es : List (Entry V)) → new ≡ record old { entries = es } → length es ≡ length old.entries → IsCounted old new
  counted_edited old new es e same =
      let long = ap (λ (s : CountedEntries V). length s.entries) e in
      let puts = ap (λ (s : CountedEntries V). s.put_in) e in
      let taken = ap (λ (s : CountedEntries V). s.taken_out) e in
      let looks = ap (λ (s : CountedEntries V). s.looks) e in
      record { looks = omega (arith, looks); puts = omega (arith, puts); taken = omega (arith, taken); balance = omega (arith, long, puts, taken, same) }

  pub worked_none : (p q : ℕ) (s : CountedEntries V) → IsWorked p q s s
  worked_none p q s = record { counted = counted_none s; puts = omega arith; looks = omega arith }

  pub worked_edited : (p q : ℕ) (old mid new : CountedEntries V) (es : List (Entry V)) → IsWorked p q old mid → new ≡ record mid { entries = es } → length es ≡ length mid.entries → IsWorked p q old new
  worked_edited p q old mid new es w e same =
      let puts = ap (λ (s : CountedEntries V). s.put_in) e in
      let taken = ap (λ (s : CountedEntries V). s.taken_out) e in
      let looks = ap (λ (s : CountedEntries V). s.looks) e in
      record {
        counted = counted_then old mid new w.counted (counted_edited mid new es e same);
        puts = omega (arith, puts, w.puts);
        looks = omega (arith, taken, looks, w.looks);
      }

  -- an entry is inserted
  pub worked_put : (old new : CountedEntries V) (es : List (Entry V)) → new ≡ record old { entries = es; put_in = old.put_in + 1 } → length new.entries ≡ length old.entries + 1 → IsWorked 1 0 old new
  worked_put old new es e longer =
      let puts = ap (λ (s : CountedEntries V). s.put_in) e in
      let taken = ap (λ (s : CountedEntries V). s.taken_out) e in
      let looks = ap (λ (s : CountedEntries V). s.looks) e in
      record {
        counted = record { looks = omega (arith, looks); puts = omega (arith, puts); taken = omega (arith, taken); balance = omega (arith, longer, puts, taken) };
        puts = omega (arith, puts);
        looks = omega (arith, taken, looks);
      }

  -- a lookup, and the removal of its entry
  pub worked_out : (p q : ℕ) (old mid seen new : CountedEntries V) (es : List (Entry V)) → IsWorked p q old mid → seen ≡ record mid { looks = mid.looks + 1 } → new ≡ record seen { entries = es; taken_out = seen.taken_out + 1 }
      → length new.entries + 1 ≡ length seen.entries → IsWorked p q old new
  worked_out p q old mid seen new es w l e shorter =
      let long = ap (λ (s : CountedEntries V). length s.entries) l in
      let puts = ap (λ (s : CountedEntries V). s.put_in) e ∙ ap (λ (s : CountedEntries V). s.put_in) l in
      let taken = ap (λ (s : CountedEntries V). s.taken_out) e ∙ ap (λ (s : CountedEntries V). s.taken_out + 1) l in
      let looks = ap (λ (s : CountedEntries V). s.looks) e ∙ ap (λ (s : CountedEntries V). s.looks) l in
      record {
        counted = record {
          looks = omega (arith, looks, w.counted.looks);
          puts = omega (arith, puts, w.counted.puts);
          taken = omega (arith, taken, w.counted.taken);
          balance = omega (arith, shorter, long, puts, taken, w.counted.balance);
        };
        puts = omega (arith, puts, w.puts);
        looks = omega (arith, taken, looks, w.looks);
      }

  pub worked_then : (p q r : ℕ) (old mid new : CountedEntries V) → IsWorked p q old mid → IsWorked 0 r mid new → IsWorked p (q + r) old new
  worked_then p q r old mid new a b = record {
    counted = counted_then old mid new a.counted b.counted;
    puts = omega (arith, a.puts, b.puts);
    looks = omega (arith, a.looks, b.looks);
  }

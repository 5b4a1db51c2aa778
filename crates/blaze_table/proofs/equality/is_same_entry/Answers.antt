use Rattle.blaze_table.proofs.Words.{◌≡◌, ℤ, Bool, true, false, sym, ◌∙◌, arith, ◌&&◌, ◌↔◌, IsTrue, int_eq, ints}
use Rattle.blaze_table.proofs.equality.is_same_entry.Goals.{then-eq, else-eq}
use Rattle.blaze_table.proofs.equality.is_same_entry.Goals as goal

same_test : (b : Bool) (x y : ℤ) → IsTrue b ↔ (x ≡ y) → b ≡ int_eq x y
same_test b x y h = grind (arith, ints)

all_hold : (a b c r : Bool) → a ≡ true → b ≡ true → r ≡ c → r ≡ ((a && b) && c)
all_hold a b c r p q e = rw (p, q) e

first_fails : (a b c r : Bool) → a ≡ false → r ≡ false → r ≡ ((a && b) && c)
first_fails a b c r p e = rw p e

second_fails : (a b c r : Bool) → b ≡ false → r ≡ false → r ≡ ((a && b) && c)
second_fails true b c r p e = rw p e
second_fails false b c r p e = e

pub returns-then-eq-2 : goal.returns-then-eq-2
returns-then-eq-2 g c =
    let rank = g.T.Integer.rank in
    let l = c.args.left in
    let r = c.args.right in
    let key = g.met.T.Integer.ranked in
    let start = c.eq.ensures ∙ same_test _ _ _ (key.equal l.0 r.0 c.in_hand.ensures.from c.in_hand.ensures.to c.in_hand-3.ensures.from c.in_hand-3.ensures.to) in
    elim c.if-eq.branch [
      | then-eq w ↦
          let end = w.eq-then-eq.ensures ∙ same_test _ _ _ (key.equal l.1 r.1 c.in_hand-2.ensures.from c.in_hand-2.ensures.to c.in_hand-4.ensures.from c.in_hand-4.ensures.to) in
          all_hold (int_eq (rank l.0) (rank r.0)) (int_eq (rank l.1) (rank r.1)) _ _ (sym start ∙ w.if-eq.true) (sym end ∙ sym w.value-is ∙ c.if-eq-2.true) c.eq-then-eq-2.ensures
      | else-eq w ↦ cc
    ]

pub returns-else-eq-2 : goal.returns-else-eq-2
returns-else-eq-2 g c =
    let rank = g.T.Integer.rank in
    let l = c.args.left in
    let r = c.args.right in
    let key = g.met.T.Integer.ranked in
    let start = c.eq.ensures ∙ same_test _ _ _ (key.equal l.0 r.0 c.in_hand.ensures.from c.in_hand.ensures.to c.in_hand-3.ensures.from c.in_hand-3.ensures.to) in
    elim c.if-eq.branch [
      | then-eq w ↦
          let end = w.eq-then-eq.ensures ∙ same_test _ _ _ (key.equal l.1 r.1 c.in_hand-2.ensures.from c.in_hand-2.ensures.to c.in_hand-4.ensures.from c.in_hand-4.ensures.to) in
          second_fails (int_eq (rank l.0) (rank r.0)) (int_eq (rank l.1) (rank r.1)) _ _ (sym end ∙ sym w.value-is ∙ c.if-eq-2.false) c.if-eq-2.false
      | else-eq w ↦ first_fails (int_eq (rank l.0) (rank r.0)) (int_eq (rank l.1) (rank r.1)) _ _ (sym start ∙ w.if-eq.false) c.if-eq-2.false
    ]

-- The entries of a cloned tree.
use Rattle.blaze_entries.proofs.Words.{◌≡◌, ℤ, pos, ◌+ℤ◌, ◌≤ℤ◌, List, [], ◌∷◌, Option, Some, None, refl, ◌∙◌, sym, subst, ap, map, AllZip, AreCloned, Entry, entry, shown_nodes, shown_node, full_node, full, AreHeld, StartsAscend, EndValue}
use Rattle.blaze_entries.proofs.Held.{are_held, full-held}

-- a clone of the value v
record IsClonedTo {V : Type 0} (is_clone : V → V → Type 0) (v : V) (o : Option V) : Type 0 where
  copy : V
  is : o ≡ Some copy
  like : is_clone v copy

module _ {T V : Type 0} (rank : T → ℤ) (is_clone : V → V → Type 0) (optional : Option V → Option V → Type 0) (never_equal : (v : V) → optional (Some v) None → ⊥) (some : (v w : V) → optional (Some v) (Some w) → is_clone v w) where
  cloned_to : (v : V) (o : Option V) → optional (Some v) o → IsClonedTo is_clone v o
  cloned_to v None h = absurd (never_equal v h)
  cloned_to v (Some w) h = record { copy = w; is = refl; like = some v w h }

  -- the same start and end, and a clone of the value
  abbrev pub IsNodeCloned : T × EndValue T (Option V) → T × EndValue T (Option V) → Type 0
  IsNodeCloned p q = (q.0 ≡ p.0) × ((q.1.end ≡ p.1.end) × optional p.1.value q.1.value)

  record Copies (es : List (Entry V)) (ms : List (T × EndValue T (Option V))) : Type 0 where
    copies : List (Entry V)
    are : shown_nodes rank ms ≡ map full_node copies
    cloned : AreCloned is_clone es copies

  copies_of : (ns ms : List (T × EndValue T (Option V))) (es : List (Entry V)) → shown_nodes rank ns ≡ map full_node es → AllZip IsNodeCloned ns ms → Copies es ms
  copies_of [] [] [] q z = record { copies = []; are = refl; cloned = tt }
  copies_of [] [] (e ∷ es) q z = cc
  copies_of [] (m ∷ ms) es q z = elim z [ ]
  copies_of (n ∷ ns) [] es q z = elim z [ ]
  copies_of (n ∷ ns) (m ∷ ms) [] q z = cc
  copies_of (n ∷ ns) (m ∷ ms) (e ∷ es) q z =
      let head : shown_node rank n ≡ full_node e = cc in
      let tail : shown_nodes rank ns ≡ map full_node es = cc in
      let value = cloned_to e.value m.1.value (subst (λ o. optional o m.1.value) (ap (λ x. x.value) head) z.0.1.1) in
      let rest = copies_of ns ms es tail z.1 in
      let lo : rank m.0 ≡ e.lo = ap rank z.0.0 ∙ ap (λ x. x.lo) head in
      let hi : rank m.1.end ≡ e.hi = ap rank z.0.1.0 ∙ ap (λ x. x.hi) head in
      record {
        copies = entry e.lo e.hi value.copy ∷ rest.copies;
        are = ap (λ l. entry l (rank m.1.end) m.1.value ∷ shown_nodes rank ms) lo
            ∙ ap (λ h. entry e.lo h m.1.value ∷ shown_nodes rank ms) hi
            ∙ ap (λ v. entry e.lo e.hi v ∷ shown_nodes rank ms) value.is
            ∙ ap (λ ps. entry e.lo e.hi (Some value.copy) ∷ ps) rest.are;
        cloned = ((refl, refl, value.like), rest.cloned);
      }

  copies_ascend : (low high : ℤ) (es cs : List (Entry V)) → AreCloned is_clone es cs → StartsAscend low high es → StartsAscend low high cs
  copies_ascend low high [] [] z a = tt
  copies_ascend low high [] (c ∷ cs) z a = elim z [ ]
  copies_ascend low high (e ∷ es) [] z a = elim z [ ]
  copies_ascend low high (e ∷ es) (c ∷ cs) z a = (
    subst (λ x. low ≤ℤ x) (sym z.0.0) a.0,
    subst (λ x. x ≤ℤ high) (sym z.0.0) a.1,
    subst (λ x. StartsAscend (x +ℤ pos 1) high cs) (sym z.0.0) (copies_ascend (e.lo +ℤ pos 1) high es cs z.1 a.2),
  )

  -- the nodes of the clone are full and ascend, and its entries are clones
  pub cloned_held : (low high : ℤ) (ns ms : List (T × EndValue T (Option V))) → AreHeld low high (shown_nodes rank ns) → AllZip IsNodeCloned ns ms → AreHeld low high (shown_nodes rank ms)
  cloned_held low high ns ms h z =
      let c = copies_of ns ms (full (shown_nodes rank ns)) h.full.held z in
      are_held low high (shown_nodes rank ms) c.copies c.are (copies_ascend low high (full (shown_nodes rank ns)) c.copies c.cloned h.ascend)

  pub cloned_entries : (low high : ℤ) (ns ms : List (T × EndValue T (Option V))) → AreHeld low high (shown_nodes rank ns) → AllZip IsNodeCloned ns ms → AreCloned is_clone (full (shown_nodes rank ns)) (full (shown_nodes rank ms))
  cloned_entries low high ns ms h z =
      let c = copies_of ns ms (full (shown_nodes rank ns)) h.full.held z in
      subst (AreCloned is_clone (full (shown_nodes rank ns))) (sym (ap full c.are ∙ full-held c.copies)) c.cloned

-- The machine value of a `RangeMap`: its pointer, and what the allocator is stored as.
use mathlib.Core.Path.{◌≡◌, refl, subst}
use Prim.Native.Nat.{ℕ}
use mathlib.Core.List.{List, [], ◌∷◌, ◌++◌}
use seplogic.Ra.Ura.{Ura}
use mir.Syntax.{impl, tnil, tcons, dnil}
use mir.Raw.{raw as bare}
use mir.Val.{Val, vstruct, vcons, vnil, of_list}
use base.Fraction.{full_share}
use base.Fml.{feq, fsep}
use base.Logic.{ent, guard, guard_i, never, fst∗, snd∗, via}
use types.Logic.{Logic, sem}
use contract.Monad.{fact_use}
use types.Kit.{Item, Goal, Seq, Step, step, ‵, given, learn, use1, ◌$◌, move, drop, fsplit, fjoin, fpick, fpack, feq_i, feq_l}
use denote.RattleType.{RattleType, Valss}
use denote.Builtin.{RawPtr}
use denote.Memory.{lone}
use denote.RawPtr.{Ptr, ptr_val, block_ptr, null_ptr, in_a_block, Testable, lies_at}
use denote.Exit.{no}
use denote.Param.{layout, arg}
use denote.Param.Laws.{arg_laws}
use denote.Steps.{nothing}
use denote.Struct.Struct.{within}
use denote.Struct.Owning.{shape, to}
use Rattle.core.proofs.alloc.Calls.{Al, Fits, handle_tells}
use Rattle.std.specs.Box.Ownership.{box_owns}
use Rattle.std_heap.proofs.GlobalToken.{dealloc_token-Testable}
use Rattle.range_map_c.specs.contracts.handle.Map.{the_row as R}
use Rattle.std_heap.specs.contracts.Global as global
use Rattle.std_heap.proofs.Global.TheLaws as heap_laws
use Rattle.std_heap.specs.declared.Global.{Global}
use Rattle.std_heap.specs.contracts.GlobalAllocator.TheImpl.{ghosts, dict}
use Rattle.range_map_c.specs.Handle.{Entries, row_entries, handle_owns, box_of_map}
use Rattle.range_map_c.specs.contracts.handle.RangeMap as range_map
use Rattle.range_map_c.specs.contracts.handle.Parts as parts

abbrev pub Z : RattleType
Z = global.the_row

abbrev pub al : Al
al = record { row = Z; laws = heap_laws.the_row_laws; g = ghosts; d = impl [] tnil dnil; drops = impl [] tnil dnil }

abbrev pub B : RattleType
B = range_map.the_row

-- The allocator as a call passes it.
abbrev pub A : RattleType
A = arg (bare (layout Z)) no Z

abbrev pub heap : Al
heap = record { row = A; laws = arg_laws (bare (layout Z)) no Z heap_laws.the_row_laws refl; g = ghosts; d = dict; drops = impl ("range_map_c::Destruct++none::drop" ∷ []) (tcons (layout A) tnil) dnil }

abbrev pub word : Ptr → Val → Val
word p h = vstruct (vcons (ptr_val p) (vcons h vnil))

module _ {M : Type 1} {𝓤 : Ura M} {𝓛 : Logic 𝓤} {K : Type 0} {Γ : List (Item 𝓤)} {G : Goal 𝓤 𝓛.H} where
  pub map_in : K → (p : Ptr) (a : Global) (es : Entries) (h : Val)
      → Step K 𝓛 (‵ (B.own_val (record { at = p; alloc = a; entries = es }) (word p h ∷ [])) ∷ Γ) G (‵ (handle_owns a p es) ∷ ‵ (Z.own_val a (h ∷ [])) ∷ Γ) G
  map_in t p a es h = step (λ s.
      nothing t $ move t (2 ∷ 0 ∷ []) $ fjoin t $ feq_i t (List Val) (ptr_val p ∷ []) (ptr_val p ∷ []) refl $ fjoin t $ feq_i t (List Val) (word p h ∷ []) (word p h ∷ []) refl $ fjoin t $
      fpack t (Valss (RawPtr ∷ Z ∷ [])) (within (shape range_map.the_type) (to range_map.the_type (record { at = p; alloc = a; entries = es })) (word p h ∷ [])) (ptr_val p ∷ [], (h ∷ [], tt)) $ fjoin t $ s)

  pub map_out : K → (d : B.Denot) (vs : List Val)
      → ((h : Val) → vs ≡ word d.at h ∷ [] → Fits al h → Seq K 𝓛 (‵ (handle_owns d.alloc d.at d.entries) ∷ ‵ (Z.own_val d.alloc (h ∷ [])) ∷ Γ) G)
      → Seq K 𝓛 (‵ (B.own_val d vs) ∷ Γ) G
  map_out t d vs k =
      fsplit t $ fpick t (λ vss. fsplit t $ feq_l t (λ ev. fsplit t $ feq_l t (λ ep. fsplit t $ handle_tells al t d.alloc vss.1.0 (λ h ea fits. move t (1 ∷ []) $ drop t $ move t (1 ∷ []) $ k h
      (subst (λ (ws : List Val). vs ≡ vstruct (of_list (ptr_val d.at ∷ (ws ++ []))) ∷ []) ea (subst (λ (ps : List Val). vs ≡ vstruct (of_list (ps ++ (vss.1.0 ++ []))) ∷ []) ep ev)) fits))))

-- The pointer of a box may be compared with null.
module _ {M : Type 1} {𝓤 : Ura M} (𝓛 : Logic 𝓤) (a : Global) (p : Ptr) (x : R.Denot) where
  pub tested : ent 𝓤 (sem 𝓛 (box_of_map a p x)) (guard 𝓤 (Testable p) (sem 𝓛 (box_of_map a p x)))
  tested = fact_use 𝓤 (Testable p) (via 𝓤 _ (snd∗ 𝓤 (sem 𝓛 (lies_at R full_share p x)) (sem 𝓛 (ghosts.dealloc_token a (bare (lone R.mir)) p))) (dealloc_token-Testable 𝓛 a (bare (lone R.mir)) p)) (guard_i 𝓤 (Testable p) (sem 𝓛 (box_of_map a p x)))

module _ {M : Type 1} {𝓤 : Ura M} {𝓛 : Logic 𝓤} {K : Type 0} {Γ : List (Item 𝓤)} {G : Goal 𝓤 𝓛.H} where
  pub either : K → (a : Global) (p : Ptr) (es : Entries) → (p ≡ null_ptr → es ≡ [] → Seq K 𝓛 Γ G)
      → ((b o : ℕ) (x : R.Denot) → p ≡ block_ptr b o → es ≡ row_entries x → Testable (block_ptr b o) → Seq K 𝓛 (‵ (box_of_map a (block_ptr b o) x) ∷ Γ) G) → Seq K 𝓛 (‵ (handle_owns a p es) ∷ Γ) G
  either t a null_ptr es none one = feq_l t (λ e. none refl e)
  either t a (block_ptr b o) es none one = fpick t (λ x. fsplit t $ feq_l t (λ e.
      use1 𝓛 (given (Testable (block_ptr b o)) (‵ (box_of_map a (block_ptr b o) x))) (tested 𝓛 a (block_ptr b o) x) $ learn t (λ may. one b o x refl e may)))

  pub boxed_in : K → (a : Global) (b o : ℕ) (x : R.Denot) → Step K 𝓛 (‵ (handle_owns a (block_ptr b o) (row_entries x)) ∷ Γ) G (‵ (box_of_map a (block_ptr b o) x) ∷ Γ) G
  boxed_in t a b o x = step (λ s. feq_i t Entries (row_entries x) (row_entries x) refl $ fjoin t $
      fpack t R.Denot (λ y. fsep (feq Entries (row_entries x) (row_entries y)) (box_of_map a (block_ptr b o) y)) x $ s)

-- The same of the parts of a box.
module _ (X : RattleType) where
  abbrev pub Parts : RattleType
  Parts = parts.the_row X

  module _ {M : Type 1} {𝓤 : Ura M} {𝓛 : Logic 𝓤} {K : Type 0} {Γ : List (Item 𝓤)} {G : Goal 𝓤 𝓛.H} where
    pub parts_out : K → (d : Parts.Denot) (vs : List Val)
        → ((b o : ℕ) (h : Val) → vs ≡ word (block_ptr b o) h ∷ [] → Fits al h → Seq K 𝓛 (‵ (box_owns (ghosts.dealloc_token d.alloc) X (block_ptr b o) d.value) ∷ ‵ (Z.own_val d.alloc (h ∷ [])) ∷ Γ) G)
        → Seq K 𝓛 (‵ (Parts.own_val d vs) ∷ Γ) G
    parts_out t d vs k =
        fsplit t $ fpick t (λ vss. fsplit t $ feq_l t (λ ev. fsplit t $ feq_l t (λ ep. fsplit t $ handle_tells al t d.alloc vss.1.0 (λ h ea fits. move t (1 ∷ []) $ drop t $ move t (1 ∷ []) $
        in_a_block t d.at (λ p. box_owns (ghosts.dealloc_token d.alloc) X p d.value) (fst∗ 𝓤 (never 𝓤) (sem 𝓛 (ghosts.dealloc_token d.alloc (bare (lone X.mir)) null_ptr))) (λ b o e. k b o h
        (subst (λ (p : Ptr). vs ≡ vstruct (of_list (ptr_val p ∷ h ∷ [])) ∷ []) e
        (subst (λ (ws : List Val). vs ≡ vstruct (of_list (ptr_val d.at ∷ (ws ++ []))) ∷ []) ea (subst (λ (ps : List Val). vs ≡ vstruct (of_list (ps ++ (vss.1.0 ++ []))) ∷ []) ep ev))) fits)))))

    pub parts_in : K → (b o : ℕ) (a : Global) (x : X.Denot) (h : Val)
        → Step K 𝓛 (‵ (Parts.own_val (record { at = block_ptr b o; alloc = a; value = x }) (word (block_ptr b o) h ∷ [])) ∷ Γ) G (‵ (box_owns (ghosts.dealloc_token a) X (block_ptr b o) x) ∷ ‵ (Z.own_val a (h ∷ [])) ∷ Γ) G
    parts_in t b o a x h = step (λ s. let p = block_ptr b o in let w : Val = word p h in
        nothing t $ move t (2 ∷ 0 ∷ []) $ fjoin t $ feq_i t (List Val) (ptr_val p ∷ []) (ptr_val p ∷ []) refl $ fjoin t $ feq_i t (List Val) (w ∷ []) (w ∷ []) refl $ fjoin t $
        fpack t (Valss (RawPtr ∷ Z ∷ [])) (within (shape (parts.the_type X)) (to (parts.the_type X) (record { at = p; alloc = a; value = x })) (w ∷ [])) (ptr_val p ∷ [], (h ∷ [], tt)) $ fjoin t $ s)

-- `as_mut` lends the map behind the pointer, and the handle has its entries once the loan ends. At null it lends nothing.
use Rattle.range_map_c.proofs.Steps.{refl, sym, ◌≡◌, List, [], ◌∷◌, lit<, named, Val, vptr, vcons, vnil, SProp, ent, full_share, Fml, GName, ftrue, fsep, flft, fres, ‵, raw, ◌⊛◌, some, later, at_ret, ◌$◌, ◌∵◌, !, qed, by, done, keep, move, drop, split, join, fsplit, fsplit3, fjoin, fpack, group, pick, use0, use1, await, rewrite, feq_i, addr, load, lit, bin, stop, fld, of_opd, no_more, and_then, first, blocks, branches, skips, exec, returns, returns_within, enter, alloc_all, pass_all, free_all, look_at, get, through, sets, sets_last, env, agg, sub, whole, look_in, live, fact, fact_i, emp, sem, tables, no, RattleType, Ptr, null_ptr, block_ptr, tests_null, type_at, plain, mut_ref_to, nothing, opens, closes, follows, lends_Part, cell_at, lone, mem, part_at, MutBor, MutRef, mut_vals, mut_Tells, Stays, stay_dropped, walk_of, Goes-spent_ref, after, Some-of, none_of, ghosts, None, Some, proved, leaves}
use base.Logic.{sep}
use denote.Follow.{follows_by}
use denote.Memory.{part_of}
use mir.Raw.{raw as bare}
use Prim.Native.Nat.{ℕ}
use seplogic.Ra.Ura.{Ura}
use types.Logic.{Logic}
use Rattle.range_map_c.specs.Handle.{Entries, row_entries}
use Rattle.range_map_c.specs.Lends.{with_map}
use Rattle.range_map_c.specs.contracts.handle.Map.{the_row as R}
use Rattle.range_map_c.proofs.Words.{Z, B, word, map_in, map_out, either, boxed_in}
use Rattle.range_map_c.specs.contracts.handle.RangeMap.as_mut.{ended, clauses}
use Rattle.range_map_c.specs.contracts.handle.RangeMap.as_mut.Key.{name as #self}
use Rattle.range_map_c.proofs.handle.RangeMap.as_mut.Statement.{statement}
use Rattle.range_map_c.proofs.handle.RangeMap.as_mut.Code as code

abbrev hs : Stays ended.signature.params ended.kept
hs = (stay_dropped (mut_ref_to (0 ∷ []) tt (plain (λ _. B))) no, tt)

-- all that a handle at a map owns but the map, and the handle's own cell
abbrev Rest : B.Denot → ℕ → ℕ → Val → ℕ → ℕ → Fml
Rest d b o h rb ro = fsep (fsep (ghosts.dealloc_token d.alloc (bare (lone R.mir)) (block_ptr b o)) (Z.own_val d.alloc (h ∷ []))) (cell_at full_share B.mir (word (block_ptr b o) h ∷ []) rb ro)

-- with any map put there, that is the handle with the map's entries
module _ {M : Type 1} {𝓤 : Ura M} (𝓛 : Logic 𝓤) (d : B.Denot) (b o : ℕ) (h : Val) (rb ro : ℕ) where
  back : d.at ≡ block_ptr b o → (w : R.Denot) → ent 𝓤 (sep 𝓤 (sem 𝓛 ((mem R).own_at w b o)) (sem 𝓛 (Rest d b o h rb ro))) (sem 𝓛 ((mem B).own_at (with_map d w) rb ro))
  unfolding part_of
  back at_b w =
      let es : Entries = row_entries w in let v : Val = word (block_ptr b o) h in
      qed 𝓛 (‵ (part_at R full_share w b o) ∷ ‵ (Rest d b o h rb ro) ∷ []) ∵ move ! (1 ∷ []) $ fsplit ! $ fsplit ! $ move ! (3 ∷ 0 ∷ []) $ fjoin ! $
      boxed_in ! d.alloc b o w $ map_in ! (block_ptr b o) d.alloc es h $
      rewrite ! 0 (λ (p : Ptr). ‵ (B.own_val (record { at = p; alloc = d.alloc; entries = es }) (v ∷ []))) (sym at_b) refl $ move ! (1 ∷ 0 ∷ []) $ fjoin ! $
      fpack ! (List Val) (λ us. fsep (cell_at full_share B.mir us rb ro) (B.own_val (with_map d w) us)) (v ∷ []) $ done !

pub as_mut_spec : {M : Type 1} → statement M
unfolding follows_by
as_mut_spec 𝓤 𝓛 𝓜 𝓡 wired =
    let H = 𝓛.H in let 𝓣 = tables 𝓤 H 𝓜 𝓡 𝓡.env in let c = clauses 𝓛 𝓜.mem 𝓡.returns in let fn = code.function in
    proved 𝓛 ended hs c 𝓜 𝓡 (Goes-spent_ref 𝓛 1 (0 ∷ []) tt (plain (λ _. B)), tt) #self fn (code.unfolded 𝓤 H 𝓜 𝓡 wired)
    (λ κs. (mut_vals, tt)) (λ κs. (mut_Tells (named 0) κs.0 B, tt)) (λ κs qs bounds s g are.
    let κ = κs.0 in let q = qs.0 in let r = s.0 in let rb = r.ref_ptr.0 in let ro = r.ref_ptr.1 in let γ = r.ghost_name in let d = r.now in let a = d.alloc in
    let z : (walk_of 𝓛 ended hs c).Ghost = ((κs, qs, bounds, s, (mut_vals r, tt)), g) in let Post : Val → SProp 𝓤 = (walk_of 𝓛 ended hs c).post z in
    let Lent : RattleType = MutRef (named 0) κ R in let Out : RattleType = type_at ended.signature.result κs in
    qed 𝓛 (((‵ (flft κ q) ⊛ ‵ ftrue) ⊛ ‵ ((MutRef (named 0) κ B).own_val r (mut_vals r)) ⊛ ‵ ftrue) ∷ ‵ ftrue ∷ []) ∵
    split ! $ split ! $ move ! (2 ∷ []) $ split ! $ keep ! (0 ∷ 2 ∷ []) $
    enter ! 𝓣.C 𝓣.Λ fn (vptr rb ro ∷ []) Post $ alloc_all ! (λ l. pass_all ! refl ((tt, tt), tt) $ let En = env fn.locals l in
    fsplit3 ! $ drop ! $ opens ! tt B rb ro (λ us. move ! (1 ∷ []) $ map_out ! d us (λ h ws fits.
    rewrite ! 2 (λ (vs : List Val). ‵ (cell_at full_share B.mir vs rb ro)) ws refl $
    -- [what the pointer owns; the allocator; the handle's cell; the open borrow, in three entries]
    either ! a d.at d.entries
    (λ is_null is_none. rewrite ! 1 (λ (p : Ptr). ‵ (cell_at full_share B.mir (word p h ∷ []) rb ro)) is_null refl $
    sets ! (of_opd ! (load ! (through ! refl (fld ! refl (stop !))) (look_in ! 1 (sub ! 0 refl (whole !))))) refl (tt, record { fits = lit< tt }) $
    sets ! (of_opd ! (get ! refl)) refl (tt, record { fits = lit< tt }) $ sets ! (bin ! (get ! refl) (lit ! tt) tt) refl (tt, tt) $ first ! $ branches ! (get ! refl)
    (λ _. sets ! (agg ! (and_then ! (lit ! tt) (no_more !))) refl (tt, (record { fits = lit< tt }, tt)) $
    feq_i ! Entries d.entries [] is_none $ map_in ! null_ptr a d.entries h $
    rewrite ! 0 (λ (p : Ptr). ‵ (B.own_val (record { at = p; alloc = a; entries = d.entries }) (word p h ∷ []))) (sym is_null) refl $
    rewrite ! 1 (λ (p : Ptr). ‵ (cell_at full_share B.mir (word p h ∷ []) rb ro)) (sym is_null) refl $ move ! (1 ∷ 0 ∷ []) $
    closes ! tt B d (word d.at h ∷ []) rb ro $
    -- [the handle's last value; the borrow; the token]
    returns_within ! Post refl (look_at ! 0 refl) $ free_all ! refl $ keep ! (0 ∷ 2 ∷ []) $
    use1 𝓛 (‵ (fres γ (B.coded.code d))) (𝓛.names.obs-res γ (B.coded.code d)) $
    use0 𝓛 (raw (fact 𝓤 (d.entries ≡ []))) (fact_i 𝓤 (d.entries ≡ []) (emp 𝓤) is_none) $ move ! (1 ∷ 0 ∷ []) $ join ! $
    use0 𝓛 (‵ (Out.own_val None (live 0 vnil ∷ []))) (none_of 𝓛 Lent) $ nothing ! $ nothing ! $ fjoin ! $ nothing ! $ move ! (4 ∷ 0 ∷ []) $ join ! $
    by ! (leaves 𝓛 ended hs c z (live 0 vnil) None (tt, tt) (tt, tt)))
    (λ wrong. absurd wrong))
    (λ b o x at_b has may. rewrite ! 2 (λ (p : Ptr). ‵ (cell_at full_share B.mir (word p h ∷ []) rb ro)) at_b refl $
    sets ! (of_opd ! (load ! (through ! refl (fld ! refl (stop !))) (look_in ! 2 (sub ! 0 refl (whole !))))) refl (tt, tt) $
    sets ! (of_opd ! (get ! refl)) refl (tt, tt) $ sets ! (bin ! (get ! refl) (lit ! tt) (tests_null (block_ptr b o) may)) refl (tt, tt) $ first ! $ branches ! (get ! refl)
    (λ wrong. absurd wrong)
    (λ _. skips ! $ exec ! 𝓣.C 𝓣.Λ En (after 4 fn.body) (at_ret En Post) $ let told : Val = live 1 (vcons (vptr b o) vnil) in
    first ! $ blocks ! $ sets ! (of_opd ! (get ! refl)) refl (tt, tt) $ sets ! (of_opd ! (get ! refl)) refl (tt, tt) $ sets_last ! (addr ! (through ! refl (stop !))) refl (tt, tt) $
    exec ! 𝓣.C 𝓣.Λ En (after 5 fn.body) (at_ret En Post) $ sets ! (of_opd ! (get ! refl)) refl (tt, tt) $
    sets ! (agg ! (and_then ! (lit ! tt) (and_then ! (get ! refl) (no_more !)))) refl (tt, (record { fits = lit< tt }, (tt, tt))) $
    fsplit ! $ move ! (1 ∷ 2 ∷ []) $ fjoin ! $ move ! (0 ∷ 2 ∷ []) $ fjoin ! $ move ! (2 ∷ 3 ∷ 4 ∷ 1 ∷ 0 ∷ []) $ group ! 5 $
    use1 𝓛 (later (some (λ (γ' : GName). ‵ (Lent.own_val (record { ref_ptr = (b, o); ghost_name = γ'; now = x }) (vptr b o ∷ [])) ⊛ ‵ (flft κ q) ⊛ ‵ (follows B R γ γ' (with_map d)))))
    (lends_Part 𝓛 B R (with_map d) (named 0) κ q rb ro b o γ (sem 𝓛 (Rest d b o h rb ro)) (back 𝓛 d b o h rb ro at_b) (B.coded.code d) (B.coded.code d) x) $ await ! tt $ pick ! (λ γ'.
    let lent : MutBor R.Denot = record { ref_ptr = (b, o); ghost_name = γ'; now = x } in
    returns ! (look_at ! 0 refl) $ free_all ! refl $ keep ! (0 ∷ []) $ split ! $ move ! (1 ∷ []) $ split ! $
    -- [the token; what follows the loan; the loan]
    use0 𝓛 (raw (fact 𝓤 (d.entries ≡ row_entries x))) (fact_i 𝓤 (d.entries ≡ row_entries x) (emp 𝓤) has) $ move ! (2 ∷ 0 ∷ []) $ join ! $
    move ! (2 ∷ []) $ use1 𝓛 (‵ (Out.own_val (Some lent) (told ∷ []))) (Some-of 𝓛 Lent lent (vptr b o)) $ nothing ! $ nothing ! $ fjoin ! $ nothing ! $ move ! (4 ∷ 0 ∷ []) $ join ! $
    by ! (leaves 𝓛 ended hs c z told (Some lent) (tt, tt) (tt, tt)))))))))

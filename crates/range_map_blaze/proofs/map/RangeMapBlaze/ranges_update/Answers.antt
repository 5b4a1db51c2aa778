use Rattle.range_map_blaze.proofs.Words.{◌≡◌, ◌⊎◌, ℤ, OnOk, OnErr, subst, arith, ints, shown_option, IsPartUpdated, IsUpdated, KeepsValues, Ok}
use Rattle.range_map_blaze.proofs.Edits.Applied.{updated_nowhere, updated_somewhere}
use Rattle.range_map_blaze.proofs.map.RangeMapBlaze.ranges_update.Goals as goal

pub update_between-requires-clause-callable : goal.update_between-requires-clause-callable
update_between-requires-clause-callable g c = c.requires.callable _ _ c.in-Some.ensures.ranks

with_ends : (P : ℤ → ℤ → Type 0) {a b l h : ℤ} → (a ≡ l) × (b ≡ h) → P a b → P l h
with_ends P {b = b} {l = l} ends p = subst (P l) ends.1 (subst (λ z. P z b) ends.0 p)

pub returns-in-Some-clause-ok : goal.returns-in-Some-clause-ok
returns-in-Some-clause-ok g c = λ told.
    with_ends
    (λ l h. OnOk c.update_between.result (IsUpdated (λ a. shown_option (λ v. v.now) a.0) g.F.FnMut g.V.PartialEq.eq g.T.Integer.low g.T.Integer.high l h c.args.f c.args.self.now.entries c.update_between.new.self.entries))
    (c.in-Some.ensures.ranks told) c.update_between.ensures.ok

pub returns-in-Some-clause-err : goal.returns-in-Some-clause-err
returns-in-Some-clause-err g c = λ told.
    with_ends
    (λ l h. OnErr c.update_between.result ((c.update_between.new.self.entries ≡ c.args.self.now.entries)
    ⊎ IsPartUpdated (λ a. shown_option (λ v. v.now) a.0) g.F.FnMut g.V.PartialEq.eq g.T.Integer.low g.T.Integer.high l h c.args.f c.args.self.now.entries c.update_between.new.self.entries))
    (c.in-Some.ensures.ranks told) c.update_between.ensures.err

pub returns-in-Some-clause-steady : goal.returns-in-Some-clause-steady
returns-in-Some-clause-steady g c = λ told.
    with_ends (λ l h. KeepsValues (λ a. shown_option (λ v. v.now) a.0) g.F.FnMut g.V.PartialEq.eq l h c.args.f c.args.self.now.entries → c.update_between.result ≡ Ok tt) (c.in-Some.ensures.ranks told) c.update_between.ensures.steady

pub returns-in-Some-clause-none : goal.returns-in-Some-clause-none
returns-in-Some-clause-none g c = λ told below. let ends = c.in-Some.ensures.ranks told in absurd (omega (arith, ints, ends.0, ends.1, c.in-Some.ensures.order))

pub returns-in-Some-clause-somewhere : goal.returns-in-Some-clause-somewhere
returns-in-Some-clause-somewhere g c =
    updated_somewhere g.V.PartialEq.eq g.met.V.Eq.laws g.T.Integer.low g.T.Integer.high (λ a. shown_option (λ v. v.now) a.0) g.F.FnMut c.args.f c.update_between.result _ _ c.args.self.now.entries c.update_between.new.self.entries
    c.update_between.ensures.ok c.update_between.ensures.err

pub returns-clause-ok : goal.returns-clause-ok
returns-clause-ok g c = λ told. updated_nowhere g.V.PartialEq.eq g.met.V.Eq.laws g.T.Integer.low g.T.Integer.high (λ a. shown_option (λ v. v.now) a.0) g.F.FnMut c.args.f _ _ _ (c.in-None.ensures.ranks told) c.in_hand.ensures

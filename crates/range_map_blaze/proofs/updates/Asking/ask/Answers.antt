use Rattle.range_map_blaze.proofs.Words.{◌≡◌, Bool, true, false, Ok, Err, refl, ◌∙◌}
use Rattle.range_map_blaze.proofs.updates.Asking.ask.Goals as goal

not_both : (b : Bool) → b ≡ true → b ≡ false → ⊥
not_both b p q = cc

-- if each call with this value returns an equal one, no call fails, and there is no edit
pub returns-in_err-answer-clause-steady : goal.returns-in_err-answer-clause-steady
returns-in_err-answer-clause-steady g c = λ keeps.
    absurd (keeps c.f.new.self (Err c.in_err-answer.field-0.0) (record { arguments = (c.args.old, tt); shown = refl; called = c.in_err-answer.ensures }))

pub returns-in_err-push_entry-clause-steady : goal.returns-in_err-push_entry-clause-steady
returns-in_err-push_entry-clause-steady g c = λ keeps.
    let same = keeps c.f.new.self (Ok c.in_ok-answer.answer) (record { arguments = (c.args.old, tt); shown = refl; called = c.in_ok-answer.ensures }) in
    absurd (not_both c.is_same.result (c.is_same.ensures ∙ same) c.if-not-is_same.true)

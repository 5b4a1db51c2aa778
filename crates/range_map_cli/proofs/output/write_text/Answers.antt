use Rattle.range_map_cli.proofs.Words.{◌++◌, take, sym, ap, ◌∙◌, append_assoc, take-append-drop, Appends-trans}
use Rattle.range_map_cli.proofs.output.write_text.Goals as goal

pub loop-rest-preserved : goal.loop-rest-preserved
loop-rest-preserved g c =
    let now = c.loop-rest.rest.now in
    let out = c.loop-rest.invariant.0 in
    let more = take c.in-Ok.count now in (
      out ++ more,
      Appends-trans _ _ _ out more c.loop-rest.invariant.1 c.in-Ok.ensures.bytes,
      c.loop-rest.invariant.2 ∙ ap (λ l. out ++ l) (sym (take-append-drop c.in-Ok.count now) ∙ ap (λ l. more ++ l) (sym c.split_at.ensures.back)) ∙ sym (append_assoc out more _),
    )

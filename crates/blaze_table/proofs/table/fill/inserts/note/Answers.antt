use Rattle.blaze_table.proofs.Words.{refl}
use Rattle.blaze_table.proofs.Fills.Noted.{noted_too}
use Rattle.blaze_table.proofs.table.fill.inserts.note.Goals as goal

pub returns-in_ok-push : goal.returns-in_ok-push
returns-in_ok-push g c =
    noted_too g.T.Integer.rank c.args.join_keys.now.items c.push.new.self.items c.args.key (g.T.Integer.rank c.args.key) c.args.is_joint refl c.in_ok-push.ensures.items c.if-is_joint.true

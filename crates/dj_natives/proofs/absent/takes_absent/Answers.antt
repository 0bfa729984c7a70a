use Rattle.std.proofs.Common.{sym, ◌∙◌}
use Rattle.std.proofs.lemmas.Bool.{false≢true}
use Rattle.dj_natives.proofs.BooleanArrays.{booleans_reported, chars_reported, others_reported}
use Rattle.dj_natives.proofs.absent.takes_absent.Goals as goal

pub returns-then-is_of_booleans : goal.returns-then-is_of_booleans
returns-then-is_of_booleans g c =
    booleans_reported (g.C.Classes.program c.args.classes.now) (g.C.Classes.prefix c.args.classes.now) (g.C.Classes.types c.args.classes.now) c.args.class c.name_of-name.result.now
    c.requires c.are_plain.ensures c.name_of-name.ensures (c.is_of_booleans.ensures.0 c.if-is_of_booleans.true)

pub returns-then-is_of_chars : goal.returns-then-is_of_chars
returns-then-is_of_chars g c =
    chars_reported (g.C.Classes.program c.args.classes.now) (g.C.Classes.prefix c.args.classes.now) (g.C.Classes.types c.args.classes.now) c.args.class c.name_of-name.result.now
    c.requires c.are_plain.ensures c.name_of-name.ensures (c.is_of_chars.ensures.0 c.if-is_of_chars.true)

pub returns-else-is_of_chars : goal.returns-else-is_of_chars
returns-else-is_of_chars g c =
    others_reported (g.C.Classes.program c.args.classes.now) (g.C.Classes.prefix c.args.classes.now) (g.C.Classes.types c.args.classes.now) c.args.class c.name_of-name.result.now c.takes_chars.result
    c.name_of-name.ensures (λ e. false≢true (sym c.if-is_of_booleans.false ∙ c.is_of_booleans.ensures.1 e)) (λ e. false≢true (sym c.if-is_of_chars.false ∙ c.is_of_chars.ensures.1 e)) c.takes_chars.ensures

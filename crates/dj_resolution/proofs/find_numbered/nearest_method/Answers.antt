use Rattle.std.proofs.Common.{◌<◌, ℕ, Option, None, Some, ◌∙◌, ap, length, subst, sym}
use Rattle.std.specs.Option.{option_map}
use Rattle.dj_model.specs.trusted.Program.{Program}
use Rattle.dj_model.specs.trusted.Linking.{most_classes, FoundMethod}
use Rattle.dj_declarations.specs.trusted.Files.{desc_in}
use Rattle.dj_class_table.specs.Tables.{method_there}
use Rattle.dj_resolution.specs.Nearest.{IsNearest}
use Rattle.dj_resolution.specs.Numbers.{SaysMethod, lists_of, numbers_up}
use Rattle.dj_resolution.specs.Ranked.{AreRanksOf}
use Rattle.dj_resolution.proofs.Nearing.{nearest_reported, none_reported}
use Rattle.dj_resolution.proofs.find_numbered.nearest_method.Goals as goal

pub nearest_of-requires-clause-there : goal.nearest_of-requires-clause-there
nearest_of-requires-clause-there c = subst (λ (p : Program). c.args.class < length p) (sym c.classes.ensures) c.requires.there

pub nearest_of-requires-clause-ranks : goal.nearest_of-requires-clause-ranks
nearest_of-requires-clause-ranks c = subst (λ (p : Program). AreRanksOf p c.args.ranks.now) (sym c.classes.ensures) c.requires.ranks

pub returns-in_err-near : goal.returns-in_err-near
returns-in_err-near c n d h =
    ap (option_map (method_there c.args.directory.now.program)) c.from_residual.ensures
    ∙ sym (ap (option_map Some) (none_reported c.args.directory.now.program c.args.ranks.now.classes.items c.args.ranks.now.ranks.items (lists_of c.args.ranks.now.rows.items) c.requires.ranks c.args.class c.requires.there c.requires.known
    c.methods_of-rows.result.now n (desc_in d) (c.methods_of-rows.ensures.declare n d h.name_is h.desc_is h.described)
    (subst (λ (p : Program). IsNearest (numbers_up most_classes p (Some c.args.class)) c.args.ranks.now.ranks.items c.methods_of-rows.result.now (length c.methods_of-rows.result.now) None) c.classes.ensures c.in_err-near.ensures)))

pub method_in-requires : goal.method_in-requires
method_in-requires c =
    let near = c.in_ok-near.ensures in
    subst (λ (k : ℕ). k < length c.args.directory.now.program) (sym near.class_is) (c.methods_of-rows.ensures.there near.row (near.at, near.before, near.row_is))

pub returns : goal.returns
returns c n d h =
    subst (λ (found : Option FoundMethod). SaysMethod c.args.directory.now.program c.method_in.result found)
    (sym (nearest_reported c.args.directory.now.program c.args.ranks.now.classes.items c.args.ranks.now.ranks.items (lists_of c.args.ranks.now.rows.items) c.requires.ranks c.args.class c.requires.there c.requires.known
    c.methods_of-rows.result.now n (desc_in d) (c.methods_of-rows.ensures.declare n d h.name_is h.desc_is h.described) c.in_ok-near.near
    (subst (λ (p : Program). IsNearest (numbers_up most_classes p (Some c.args.class)) c.args.ranks.now.ranks.items c.methods_of-rows.result.now (length c.methods_of-rows.result.now) (Some c.in_ok-near.near)) c.classes.ensures c.in_ok-near.ensures)))
    (c.method_in.ensures n d h)

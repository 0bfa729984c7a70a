use Rattle.std.proofs.Common.{◌<◌, ℕ, Option, None, Some, ◌∙◌, ap, length, subst, sym}
use Rattle.std.specs.Option.{option_map}
use Rattle.std.proofs.lemmas.Option.{none-some}
use Rattle.dj_model.specs.trusted.Program.{Program}
use Rattle.dj_model.specs.trusted.Linking.{most_classes}
use Rattle.dj_declarations.specs.trusted.Files.{desc_in}
use Rattle.dj_class_table.specs.Tables.{method_there}
use Rattle.dj_resolution.specs.Nearest.{IsNearMarked, IsNearestMarked}
use Rattle.dj_resolution.specs.Numbers.{lists_of, numbers_up}
use Rattle.dj_resolution.specs.Ranked.{AreRanksOf}
use Rattle.dj_resolution.proofs.Chained.{up_within}
use Rattle.dj_resolution.proofs.Covering.{near_marked, none_marked, rank_covers}
use Rattle.dj_resolution.proofs.find_numbered.marked_method.Goals as goal

pub nearest_marked-requires-clause-there : goal.nearest_marked-requires-clause-there
nearest_marked-requires-clause-there c = subst (λ (p : Program). c.args.class < length p) (sym c.classes.ensures) c.requires.there

pub nearest_marked-requires-clause-ranks : goal.nearest_marked-requires-clause-ranks
nearest_marked-requires-clause-ranks c = subst (λ (p : Program). AreRanksOf p c.args.ranks.now) (sym c.classes.ensures) c.requires.ranks

pub returns-in_default : goal.returns-in_default
returns-in_default c n d h =
    sym (ap (option_map Some) (none_marked c.args.directory.now.program c.args.ranks.now.classes.items c.args.ranks.now.ranks.items (lists_of c.args.ranks.now.rows.items) c.requires.ranks c.args.class c.requires.there c.requires.known n (desc_in d) c.in_ok-marks.marks.now (rank_covers c.args.directory.now.program c.args.ranks.now.ranks.items n (desc_in d) c.in_ok-marks.marks.now (c.in_ok-marks.ensures n d h))
    (subst (λ (p : Program). IsNearestMarked (numbers_up most_classes p (Some c.args.class)) c.args.ranks.now.ranks.items c.in_ok-marks.marks.now None) c.classes.ensures
    (subst (λ (o : Option ℕ). IsNearestMarked (numbers_up most_classes c.classes.result.now (Some c.args.class)) c.args.ranks.now.ranks.items c.in_ok-marks.marks.now o) c.in_default.is c.in_ok-near.ensures))))

pub method_in-requires : goal.method_in-requires
method_in-requires c =
    let is : IsNearMarked (numbers_up most_classes c.args.directory.now.program (Some c.args.class)) c.args.ranks.now.ranks.items c.in_ok-marks.marks.now c.in-Some.near =
    subst (λ (p : Program). IsNearestMarked (numbers_up most_classes p (Some c.args.class)) c.args.ranks.now.ranks.items c.in_ok-marks.marks.now (Some c.in-Some.near)) c.classes.ensures
    (subst (λ (o : Option ℕ). IsNearestMarked (numbers_up most_classes c.classes.result.now (Some c.args.class)) c.args.ranks.now.ranks.items c.in_ok-marks.marks.now o) c.in-Some.is c.in_ok-near.ensures) in
    up_within most_classes c.args.directory.now.program (Some c.args.class) c.requires.there c.in-Some.near is.among

pub returns : goal.returns
returns c n d h =
    c.in_ok-place.ensures n d h
    ∙ sym (ap (option_map Some) (near_marked c.args.directory.now.program c.args.ranks.now.classes.items c.args.ranks.now.ranks.items (lists_of c.args.ranks.now.rows.items) c.requires.ranks c.args.class c.requires.there c.requires.known n (desc_in d) c.in_ok-marks.marks.now (rank_covers c.args.directory.now.program c.args.ranks.now.ranks.items n (desc_in d) c.in_ok-marks.marks.now (c.in_ok-marks.ensures n d h)) c.in-Some.near
    (subst (λ (p : Program). IsNearestMarked (numbers_up most_classes p (Some c.args.class)) c.args.ranks.now.ranks.items c.in_ok-marks.marks.now (Some c.in-Some.near)) c.classes.ensures
    (subst (λ (o : Option ℕ). IsNearestMarked (numbers_up most_classes c.classes.result.now (Some c.args.class)) c.args.ranks.now.ranks.items c.in_ok-marks.marks.now o) c.in-Some.is c.in_ok-near.ensures))
    (λ none. none-some (method_there c.args.directory.now.program c.in_ok-place.place) (sym (c.in_ok-place.ensures n d h ∙ ap (option_map Some) none)))))

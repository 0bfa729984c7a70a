use Rattle.std.proofs.Common.{◌≡◌, ◌<◌, ℕ, List, Some, None, IfSome, length, sym, ◌∙◌, ap, subst}
use Rattle.std.specs.Global.{Vec}
use Rattle.std.specs.Option.{option_map}
use Rattle.dj_model.specs.trusted.Program.{Program}
use Rattle.dj_model.specs.trusted.Types.{object_name}
use Rattle.dj_declarations.specs.trusted.Files.{desc_in}
use Rattle.dj_class_table.specs.Tables.{method_there}
use Rattle.dj_resolution.specs.Linked.{Linked, prefix_of, resolved_method}
use Rattle.dj_resolution.specs.Chained.{AreMethodChains}
use Rattle.dj_resolution.specs.Numbers.{AreAbove, lists_of}
use Rattle.dj_resolution.specs.Ranked.{AreRanksOf}
use Rattle.dj_resolution.specs.Shared.{HavePlainMarks, HaveRankMarks}
use Rattle.dj_resolution.proofs.Numbered.{FirstSays, AboveSays}
use Rattle.dj_resolution.proofs.Resolution.{method_here, method_above, object_within}
use Rattle.dj_resolution.proofs.linker.Linker.resolve_numbered_method.Goals as goal

pub method_first-requires-clause-object : goal.method_first-requires-clause-object
method_first-requires-clause-object c =
    subst (λ (p : Program). IfSome c.self.inside.object (λ k. k < length p)) (sym (c.requires.same ∙ ap (λ (linked : Linked). linked.program) (sym c.self.view_is)))
    (object_within c.self.inside.table (object_name (prefix_of c.self.inside.base)) c.self.inside.object c.self.inside.named)

pub method_first-requires-clause-there : goal.method_first-requires-clause-there
method_first-requires-clause-there c = subst (λ (p : Program). c.args.class < length p) (sym c.requires.same) c.requires.there

pub method_first-requires-clause-ranks : goal.method_first-requires-clause-ranks
method_first-requires-clause-ranks c =
    subst (λ (p : Program). AreRanksOf p c.self.inside.ranks) (sym (c.requires.same ∙ ap (λ (linked : Linked). linked.program) (sym c.self.view_is))) c.self.invariant.ranks

pub method_first-requires-clause-shared : goal.method_first-requires-clause-shared
method_first-requires-clause-shared c =
    subst (λ (p : Program). HaveRankMarks p c.self.inside.ranks.ranks.items c.self.inside.shared.declared.items) (sym (c.requires.same ∙ ap (λ (linked : Linked). linked.program) (sym c.self.view_is))) c.self.invariant.shared.declared

pub plain_method_up-requires-clause-shared : goal.plain_method_up-requires-clause-shared
plain_method_up-requires-clause-shared c =
    subst (λ (p : Program). HavePlainMarks p c.self.inside.shared.plain.items) (sym (c.requires.same ∙ ap (λ (linked : Linked). linked.program) (sym c.self.view_is))) c.self.invariant.shared.plain

pub plain_method_up-requires-clause-there : goal.plain_method_up-requires-clause-there
plain_method_up-requires-clause-there c = subst (λ (p : Program). c.args.class < length p) (sym c.requires.same) c.requires.there

pub plain_method_up-requires-clause-above : goal.plain_method_up-requires-clause-above
plain_method_up-requires-clause-above c =
    subst (λ (p : Program). AreAbove p (lists_of c.deref.result.now)) (sym (c.requires.same ∙ ap (λ (linked : Linked). linked.program) (sym c.self.view_is)))
    (subst (λ (lists : List (Vec ℕ)). AreAbove c.self.inside.table (lists_of lists)) (sym c.deref.ensures.value) c.self.invariant.above)

pub plain_method_up-requires-clause-methods : goal.plain_method_up-requires-clause-methods
plain_method_up-requires-clause-methods c =
    subst (λ (p : Program). AreMethodChains p c.self.inside.methods) (sym (c.requires.same ∙ ap (λ (linked : Linked). linked.program) (sym c.self.view_is))) c.self.invariant.methods

pub returns-in-Some : goal.returns-in-Some
returns-in-Some c n d h =
    let same : c.args.directory.now.program ≡ c.self.inside.table = c.requires.same ∙ ap (λ (linked : Linked). linked.program) (sym c.self.view_is) in
    let reported = subst (λ (p : Program). FirstSays c.self.inside.object c.args.class n (desc_in d) (Some c.in-Some.place) p) same (c.in-Some.ensures n d h) in
    subst (λ (linked : Linked). Some (method_there linked.program c.in-Some.place) ≡ option_map Some (resolved_method linked c.args.class n d)) c.self.view_is
    (method_here (record { program = c.self.inside.table; prefix = prefix_of c.self.inside.base }) c.args.class n d c.self.inside.object (method_there c.self.inside.table c.in-Some.place)
    c.names_differ.ensures (subst (λ (linked : Linked). c.args.class < length linked.program) (sym c.self.view_is) c.requires.there)
    c.self.inside.named reported)

pub returns-in-None : goal.returns-in-None
returns-in-None c n d h =
    let same : c.args.directory.now.program ≡ c.self.inside.table = c.requires.same ∙ ap (λ (linked : Linked). linked.program) (sym c.self.view_is) in
    let first = subst (λ (p : Program). FirstSays c.self.inside.object c.args.class n (desc_in d) None p) same (c.in-None.ensures n d h) in
    let above = subst (λ (p : Program). AboveSays c.args.class n (desc_in d) c.plain_method_up.result p) same (c.plain_method_up.ensures n d h) in
    subst (λ (linked : Linked). option_map (method_there linked.program) c.plain_method_up.result ≡ option_map Some (resolved_method linked c.args.class n d)) c.self.view_is
    (method_above (record { program = c.self.inside.table; prefix = prefix_of c.self.inside.base }) c.args.class n d c.self.inside.object
    (option_map (method_there c.self.inside.table) c.plain_method_up.result)
    c.names_differ.ensures (subst (λ (linked : Linked). c.args.class < length linked.program) (sym c.self.view_is) c.requires.there)
    c.self.inside.named first above)

use Rattle.std.proofs.Common.{◌≡◌, None, subst}
use Rattle.dj_model.specs.trusted.Program.{Program}
use Rattle.dj_declarations.specs.trusted.Files.{desc_in}
use Rattle.dj_declarations.specs.Members.{method_place, field_place}
use Rattle.dj_class_table.specs.Tables.{methods_at, fields_at}
use Rattle.dj_resolution.proofs.Resolution.{DoNamesDiffer}
use Rattle.dj_resolution.proofs.Unnumbered.{unresolved_method, unresolved_field}
use Rattle.dj_resolution.proofs.described.nothing_resolves.Goals as goal

pub returns : goal.returns
returns c =
    let linked = c.args.linker.now in
    let differ = subst (λ (p : Program). DoNamesDiffer p) c.classes.ensures c.names_differ.ensures in
    record {
      no_method = λ n d is any. unresolved_method linked c.args.class n d differ c.requires.there (λ k. subst (λ (p : Program). method_place (methods_at p k) n (desc_in d) ≡ None) c.requires.same (c.names_all.ensures.methods k n d is any));
      no_field = λ n d is any. unresolved_field linked c.args.class n d differ c.requires.there (λ k. subst (λ (p : Program). field_place (fields_at p k) n (desc_in d) ≡ None) c.requires.same (c.names_all.ensures.fields k n d is any));
    }

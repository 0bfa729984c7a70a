-- The rewritten program asks the host nothing where the program asks it nothing.
use Rattle.std.proofs.Common.{◌≡◌, true, List, [], ◌∷◌, Contains, refl, sym, ap, ◌∙◌, subst, inl, inr}
use Rattle.std.specs.List.{list_all}
use Rattle.dj_names.specs.declared.native.NativeId.{NativeId}
use Rattle.dj_names.specs.Types.{in_sandbox}
use Rattle.dj_names.specs.trusted.Library.{stop_class}
use Rattle.dj_names.specs.Library.{below_object, accounter_class, accounter_methods}
use Rattle.dj_model.specs.trusted.Program.{Program, Class, Method, Code, Body, Abstract, Native, Runs}
use Rattle.dj_model.specs.Program.{body_map, method_map, class_map, program_map}
use Rattle.dj_model.specs.trusted.Libraries.{library_class}
use Rattle.dj_model.specs.Standing.{AsksNothing}
use Rattle.dj_model.proofs.QuietLibraries.{is_quiet_class, Quiet, quiet_all}
use Rattle.dj_groups.specs.Rewritten.{rewritten_code, rewritten}
use Rattle.dj_loader.proofs.Lists.{member_cases, of_map}

abbrev accounter : Class
accounter = library_class (below_object accounter_class accounter_methods)

abbrev stop : Class
stop = library_class (below_object stop_class [])

abbrev added : List Class
added = accounter ∷ stop ∷ []

added_quiet : list_all is_quiet_class added ≡ true
added_quiet = refl

native_before : (g : Code → Code) (body : Body) (id : NativeId) → body_map g body ≡ Native id → body ≡ Native id
native_before g Abstract id e = absurd cc
native_before g (Native own) id e = e
native_before g (Runs code) id e = absurd cc

pub rewritten_quiet : (program : Program) → AsksNothing program → AsksNothing (rewritten program)
unfolding rewritten
rewritten_quiet program quiet class m id there own native =
    let both = quiet_all added added_quiet in
    let mapped = program_map in_sandbox (rewritten_code program) program in
    elim (member_cases accounter (stop ∷ mapped) class there) [
      | inl same ↦ subst Quiet same both.0 m id own native
      | inr more ↦ elim (member_cases stop mapped class more) [
        | inl same ↦ subst Quiet same both.1.0 m id own native
        | inr later ↦
            let (c, listed, is) = of_map (class_map in_sandbox (rewritten_code program)) program class later in
            let (n, declared, method_is) = of_map (method_map in_sandbox (rewritten_code program)) c.methods m (subst (λ (x : Class). Contains x.methods m) (sym is) own) in
            let body : body_map (rewritten_code program) n.body ≡ Native id = ap (λ (x : Method). x.body) method_is ∙ native in
            quiet c n id listed declared (native_before (rewritten_code program) n.body id body)
      ]
    ]

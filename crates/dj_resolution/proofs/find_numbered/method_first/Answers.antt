use Rattle.std.proofs.Common.{◌≡◌, ◌∷◌, ℕ, Option, None, Some, slice_get, sym, ◌∙◌, ap, subst, if◌then◌else◌}
use Rattle.std.specs.Option.{option_map}
use Rattle.dj_model.specs.trusted.Program.{is_interface, flags_of}
use Rattle.dj_model.specs.trusted.Linking.{any_method, most_classes, option_list}
use Rattle.dj_declarations.specs.trusted.Files.{desc_in}
use Rattle.dj_class_table.specs.Tables.{method_there}
use Rattle.dj_resolution.specs.Numbers.{method_found, numbers_up, first_some}
use Rattle.dj_resolution.proofs.Finding.{interface_set, interface_clear, first_of_class, then_of_object, no_object, of_superclasses}
use Rattle.dj_resolution.proofs.find_numbered.method_first.Goals as goal

pub returns-then-flags_of-eq0 : goal.returns-then-flags_of-eq0
returns-then-flags_of-eq0 c n d h =
    of_superclasses (method_found c.args.directory.now.program any_method n (desc_in d)) (is_interface (flags_of (slice_get c.args.directory.now.program c.args.class)))
    (c.args.class ∷ option_list c.args.object) (numbers_up most_classes c.args.directory.now.program (Some c.args.class)) (option_map (method_there c.args.directory.now.program) c.method_up.result)
    (interface_clear (slice_get c.args.directory.now.program c.args.class) c.flags_of.result c.flags_of.ensures c.if-flags_of-eq0.true) (c.method_up.ensures n d h)

pub returns-in_err-object-in-None : goal.returns-in_err-object-in-None
returns-in_err-object-in-None c n d h =
    ap (option_map (method_there c.args.directory.now.program)) c.from_residual.ensures
    ∙ subst
    (λ (o : Option ℕ). None ≡ option_map Some (first_some (method_found c.args.directory.now.program any_method n (desc_in d))
    (if is_interface (flags_of (slice_get c.args.directory.now.program c.args.class)) then c.args.class ∷ option_list o else numbers_up most_classes c.args.directory.now.program (Some c.args.class))))
    (sym c.in_err-object-in-None.was)
    (no_object (method_found c.args.directory.now.program any_method n (desc_in d)) (is_interface (flags_of (slice_get c.args.directory.now.program c.args.class))) c.args.class
    (numbers_up most_classes c.args.directory.now.program (Some c.args.class))
    (interface_set (slice_get c.args.directory.now.program c.args.class) c.flags_of.result c.flags_of.ensures c.if-flags_of-eq0.false) (c.in-None.ensures n d h))

pub returns-in-Some : goal.returns-in-Some
returns-in-Some c n d h =
    first_of_class (method_found c.args.directory.now.program any_method n (desc_in d)) (is_interface (flags_of (slice_get c.args.directory.now.program c.args.class))) c.args.class
    (option_list c.args.object) (numbers_up most_classes c.args.directory.now.program (Some c.args.class)) (method_there c.args.directory.now.program c.in-Some.place)
    (interface_set (slice_get c.args.directory.now.program c.args.class) c.flags_of.result c.flags_of.ensures c.if-flags_of-eq0.false) (c.in-Some.ensures n d h)

pub returns-in_ok-object-in-None : goal.returns-in_ok-object-in-None
returns-in_ok-object-in-None c n d h =
    subst
    (λ (o : Option ℕ). option_map (method_there c.args.directory.now.program) c.method_in-in-None.result ≡ option_map Some (first_some (method_found c.args.directory.now.program any_method n (desc_in d))
    (if is_interface (flags_of (slice_get c.args.directory.now.program c.args.class)) then c.args.class ∷ option_list o else numbers_up most_classes c.args.directory.now.program (Some c.args.class))))
    (sym c.in_ok-object-in-None.was)
    (then_of_object (method_found c.args.directory.now.program any_method n (desc_in d)) (is_interface (flags_of (slice_get c.args.directory.now.program c.args.class))) c.args.class
    c.in_ok-object-in-None.field-0 (numbers_up most_classes c.args.directory.now.program (Some c.args.class)) (option_map (method_there c.args.directory.now.program) c.method_in-in-None.result)
    (interface_set (slice_get c.args.directory.now.program c.args.class) c.flags_of.result c.flags_of.ensures c.if-flags_of-eq0.false) (c.in-None.ensures n d h) (c.method_in-in-None.ensures n d h))

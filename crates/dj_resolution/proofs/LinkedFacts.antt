-- Prefixes, and what resolution finds in classes by numbers and texts, by plain values: A and B below it, an interface, and an Object of each base.
use Rattle.std.proofs.Common.{◌≡◌, ℕ, false, List, [], ◌∷◌, map, codes, refl, sym, ap, ◌∙◌, Option, Some, None}
use Rattle.std.specs.Cmp.Lexicographic.{bytes_decides}
use Rattle.std.specs.Option.{option_map}
use Rattle.std.proofs.lemmas.Bool.{false≢true}
use Rattle.std.proofs.lemmas.Option.{none-some}
use Rattle.dj_names.specs.declared.descriptor.Ty.{Ty}
use Rattle.dj_names.specs.trusted.Types.{Name, same_name, same_type, class_type}
use Rattle.dj_names.specs.trusted.Library.{int}
use Rattle.dj_names.specs.trusted.DescReading.{dims_read, name_read, class_read, of_read, type_read, params_read, field_read, return_read, method_read, desc_read}
use Rattle.dj_names.specs.trusted.NameReading.{reads_class_name}
use Rattle.dj_model.specs.trusted.Types.{Member}
use Rattle.dj_model.specs.trusted.Program.{Program, Class, Method}
use Rattle.dj_model.specs.trusted.Linking.{most_classes, chain_of, interfaces_from, interfaces_above, field_order, resolve_method, resolve_field, FoundMethod, FoundField}
use Rattle.dj_model.specs.SmallRuns.{class_with, field_with, method_with, code}
use Rattle.dj_declarations.specs.trusted.Files.{desc_in}
use Rattle.dj_resolution.specs.declared.linker.BaseNames.TheVariants as bases
use Rattle.dj_resolution.specs.Linked.{Linked, prefix_of, member_of, resolved_method, resolved_field, class_name}

-- ---- a program

abbrev runs : Name → Method
runs name = method_with 1 name [] None (code [] [])

abbrev a_class : Class
a_class = class_with (codes "A") (field_with 1 (codes "x") int None ∷ []) (runs (codes "m") ∷ [])

abbrev b_class : Class
b_class = record (class_with (codes "B") (field_with 1 (codes "y") int None ∷ []) (runs (codes "n") ∷ [])) { superclass = Some (codes "A") }

abbrev i_class : Class
i_class = record (class_with (codes "I") [] []) { flags = 1537 }

-- what is there under no prefix has a method of its own, and so has what is there under the package
abbrev plain_class : Class
plain_class = record (class_with (codes "java/lang/Object") [] (runs (codes "p") ∷ [])) { superclass = None }

abbrev package_class : Class
package_class = record (class_with (codes "sandbox/java/lang/Object") [] (runs (codes "q") ∷ [])) { superclass = None }

abbrev program : Program
program = a_class ∷ b_class ∷ i_class ∷ plain_class ∷ package_class ∷ []

abbrev plain : Linked
plain = record { program = program; prefix = prefix_of bases.Plain }

abbrev rewritten : Linked
rewritten = record { program = program; prefix = prefix_of bases.Sandbox }

other_name : (a b : Name) → same_name a b ≡ false → a ≡ b → ⊥
other_name a b differ e = false≢true (sym differ ∙ (bytes_decides a b).1 e)

-- ---- prefixes

prefixes : map (λ base. prefix_of base) (bases.Plain ∷ bases.Sandbox ∷ []) ≡ [] ∷ codes "sandbox/" ∷ []
prefixes = refl

-- the names of plain runs have none, and those of rewritten classes the whole package with its slash
plain_under_package : prefix_of bases.Plain ≡ codes "sandbox/" → ⊥
plain_under_package e = other_name [] (codes "sandbox/") refl e

rewritten_under_none : prefix_of bases.Sandbox ≡ [] → ⊥
rewritten_under_none e = other_name (codes "sandbox/") [] refl e

without_slash : prefix_of bases.Sandbox ≡ codes "sandbox" → ⊥
without_slash e = other_name (codes "sandbox/") (codes "sandbox") refl e

-- ---- names of classes

-- past the last there is none
names : map (class_name program) (0 ∷ 1 ∷ 4 ∷ 5 ∷ []) ≡ codes "A" ∷ codes "B" ∷ codes "sandbox/java/lang/Object" ∷ [] ∷ []
names = refl

not_next : class_name program 0 ≡ codes "B" → ⊥
not_next e = other_name (codes "A") (codes "B") refl e

-- ---- members

member : member_of program 1 (codes "x") (codes "I") ≡ record { class = class_type (codes "B"); name = codes "x"; desc = desc_in (codes "I") }
member = refl

not_of_superclass : (m : Member) → member_of program 1 (codes "x") (codes "I") ≡ m → m.class ≡ class_type (codes "A") → ⊥
not_of_superclass m is class =
    let e : class_type (codes "B") ≡ class_type (codes "A") = ap (λ (n : Member). n.class) is ∙ class in
    false≢true (ap (λ (ty : Ty). same_type ty (class_type (codes "A"))) e)

-- ---- methods

abbrev name_of_method : FoundMethod → List Name
name_of_method found = found.class ∷ found.method.name ∷ []

abbrev found_method : Linked → ℕ → Name → Name → Option (List Name)
found_method linked class name desc = option_map name_of_method (resolved_method linked class name desc)

-- in B itself, above it and not below; nothing of another name, of another descriptor, and of no class
methods : found_method plain 1 (codes "n") (codes "()V") ∷ found_method plain 1 (codes "m") (codes "()V") ∷ found_method plain 0 (codes "n") (codes "()V")
    ∷ found_method plain 1 (codes "o") (codes "()V") ∷ found_method plain 1 (codes "n") (codes "()I") ∷ found_method plain 5 (codes "n") (codes "()V") ∷ []
    ≡ Some (codes "B" ∷ codes "n" ∷ []) ∷ Some (codes "A" ∷ codes "m" ∷ []) ∷ None ∷ None ∷ None ∷ None ∷ []
unfolding reads_class_name dims_read name_read class_read of_read type_read params_read field_read return_read method_read desc_read desc_in most_classes chain_of interfaces_from interfaces_above resolve_method
methods = refl

-- the methods of an interface are looked for in the class Object of the base too
of_interface : found_method plain 2 (codes "p") (codes "()V") ∷ found_method plain 2 (codes "q") (codes "()V") ∷ found_method rewritten 2 (codes "p") (codes "()V") ∷ found_method rewritten 2 (codes "q") (codes "()V") ∷ []
    ≡ Some (codes "java/lang/Object" ∷ codes "p" ∷ []) ∷ None ∷ None ∷ Some (codes "sandbox/java/lang/Object" ∷ codes "q" ∷ []) ∷ []
unfolding reads_class_name dims_read name_read class_read of_read type_read params_read field_read return_read method_read desc_read desc_in most_classes chain_of interfaces_from interfaces_above resolve_method
of_interface = refl

-- ---- fields

abbrev name_of_field : FoundField → List Name
name_of_field found = found.class ∷ found.field.name ∷ []

abbrev found_field : Linked → ℕ → Name → Name → Option (List Name)
found_field linked class name desc = option_map name_of_field (resolved_field linked class name desc)

fields : found_field plain 1 (codes "y") (codes "I") ∷ found_field plain 1 (codes "x") (codes "I") ∷ found_field plain 0 (codes "y") (codes "I") ∷ found_field plain 1 (codes "y") (codes "J") ∷ found_field plain 5 (codes "y") (codes "I") ∷ []
    ≡ Some (codes "B" ∷ codes "y" ∷ []) ∷ Some (codes "A" ∷ codes "x" ∷ []) ∷ None ∷ None ∷ None ∷ []
unfolding reads_class_name dims_read name_read class_read of_read type_read params_read field_read return_read method_read desc_read desc_in most_classes chain_of interfaces_from field_order resolve_field
fields = refl

not_below : found_field plain 0 (codes "y") (codes "I") ≡ Some (codes "B" ∷ codes "y" ∷ []) → ⊥
unfolding reads_class_name dims_read name_read class_read of_read type_read params_read field_read return_read method_read desc_read desc_in most_classes chain_of interfaces_from field_order resolve_field
not_below e = none-some (codes "B" ∷ codes "y" ∷ []) e

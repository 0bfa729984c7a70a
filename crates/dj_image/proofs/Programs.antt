-- What instructions of a program use is what the code of its classes uses.
use Rattle.std.proofs.Common.{◌≡◌, ◌↔◌, ℕ, suc, List, [], ◌∷◌, ◌++◌, map, Option, Some, None, option_and_then, refl, sym, ap, subst, ◌∙◌, inl, inr, arith, Contains, IsTrue}
use Rattle.std.specs.Option.{option_map}
use Rattle.std.specs.Prelude.{if◌then◌else◌}
use Rattle.std.specs.List.{flat_map}
use Rattle.dj_names.specs.declared.descriptor.Base.{Base}
use Rattle.dj_names.specs.declared.descriptor.Base.TheVariants as bases
use Rattle.dj_names.specs.declared.descriptor.Of.{Of}
use Rattle.dj_names.specs.declared.descriptor.Of.TheVariants as ofs
use Rattle.dj_names.specs.declared.descriptor.Ty.{Ty}
use Rattle.dj_names.specs.trusted.Types.{base_array, same_name}
use Rattle.dj_ops.specs.declared.instruction.Instr.{Instr}
use Rattle.dj_pool.specs.trusted.Pool.{Constant, IsPool}
use Rattle.dj_model.specs.trusted.Program.{Program, Class, Method, Code, Body, Runs, has_code}
use Rattle.dj_model.specs.trusted.Instructions.{Instruction}
use Rattle.dj_program.specs.trusted.Naming.{instruction_in}
use Rattle.dj_program.specs.trusted.Codes.{code_in}
use Rattle.dj_program.specs.Views.{parts_of}
use Rattle.dj_program.specs.declared.code.MethodCode.{MethodCode}
use Rattle.dj_class_table.specs.Tables.{class_number}
use Rattle.dj_numbering.specs.Typed.{is_known_of}
use Rattle.dj_image.specs.declared.parts.ClassParts.{ClassParts}
use Rattle.dj_image.specs.declared.uses.Use.{Use}
use Rattle.dj_image.specs.Sources.{with_code, with_codes, class_of_source, program_of_sources}
use Rattle.dj_image.specs.Parts.{source_of, sources_of, FitMethods, FitClass, FitClasses}
use Rattle.dj_image.specs.Imaged.{UsesType, IsUsed, IsPartOf, IsNumberedArray}
use Rattle.dj_image.specs.Uses.{use_in, used_type, code_uses, class_uses, class_types, used_types}
use Rattle.dj_image.specs.ArrayRows.{IsRow, known_types, wholes_of}
use Rattle.dj_image.proofs.Members.{member_first, member_later, member_none, member_cases, member_of_filter_map, member_filter_map, member_of_flat_map, member_flat_map, member_of_filter, member_filter}
use Rattle.dj_image.proofs.Used.{uses_are}
use Rattle.dj_image.proofs.ClassTexts.{typed}

-- ---- members of mapped lists

module _ {A B : Type 0} where
  pub member_of_map : (f : A → B) (xs : List A) (y : B) → Contains (map f xs) y → (x : A) × Contains xs x × (f x ≡ y)
  member_of_map f [] y m = absurd (member_none y m)
  member_of_map f (x ∷ xs) y m = elim (member_cases (f x) (map f xs) y m) [
    | inl same ↦ (x, member_first x xs, same)
    | inr later ↦ let found = member_of_map f xs y later in (found.0, member_later x xs found.0 found.1, found.2)
  ]

  pub member_map : (f : A → B) (xs : List A) (x : A) → Contains xs x → Contains (map f xs) (f x)
  member_map f [] x m = absurd (member_none x m)
  member_map f (z ∷ xs) x m = elim (member_cases z xs x m) [
    | inl same ↦ subst (λ (u : A). Contains (f z ∷ map f xs) (f u)) same (member_first (f z) (map f xs))
    | inr later ↦ member_later (f z) (map f xs) (f x) (member_map f xs x later)
  ]

-- ---- classes side by side with their parts

pub record IsBeside (program : Program) (parts : List ClassParts) (class : Class) : Type 0 where
  pub declared : Class
  pub own : ClassParts
  pub there : Contains parts own
  pub fit : FitClass declared own
  pub is : class ≡ class_of_source (source_of declared own)

beside_later : (program : Program) (c : Class) (parts : List ClassParts) (p : ClassParts) (class : Class) → IsBeside program parts class → IsBeside (c ∷ program) (p ∷ parts) class
beside_later program c parts p class b = record { declared = b.declared; own = b.own; there = member_later p parts b.own b.there; fit = b.fit; is = b.is }

pub beside : (program : Program) (parts : List ClassParts) → FitClasses program parts → (class : Class) → Contains (program_of_sources (sources_of program parts)) class → IsBeside program parts class
unfolding sources_of
beside [] [] fit class m = absurd (member_none class m)
beside [] (p ∷ parts) fit class m = absurd fit
beside (c ∷ program) [] fit class m = absurd fit
beside (c ∷ program) (p ∷ parts) fit class m = elim (member_cases (class_of_source (source_of c p)) (program_of_sources (sources_of program parts)) class m) [
  | inl same ↦ record { declared = c; own = p; there = member_first p parts; fit = fit.0; is = sym same }
  | inr later ↦ beside_later program c parts p class (beside program parts fit.1 class later)
]

pub record HasClass (program : Program) (parts : List ClassParts) (own : ClassParts) : Type 0 where
  pub declared : Class
  pub fit : FitClass declared own
  pub there : Contains (program_of_sources (sources_of program parts)) (class_of_source (source_of declared own))

pub class_beside : (program : Program) (parts : List ClassParts) → FitClasses program parts → (own : ClassParts) → Contains parts own → HasClass program parts own
unfolding sources_of
class_beside [] [] fit own m = absurd (member_none own m)
class_beside [] (p ∷ parts) fit own m = absurd fit
class_beside (c ∷ program) [] fit own m = absurd fit
class_beside (c ∷ program) (p ∷ parts) fit own m = elim (member_cases p parts own m) [
  | inl same ↦ subst (λ (q : ClassParts). HasClass (c ∷ program) (p ∷ parts) q) same (record { declared = c; fit = fit.0; there = member_first (class_of_source (source_of c p)) (program_of_sources (sources_of program parts)) })
  | inr later ↦ let found = class_beside program parts fit.1 own later in
      record { declared = found.declared; fit = found.fit; there = member_later (class_of_source (source_of c p)) (program_of_sources (sources_of program parts)) (class_of_source (source_of found.declared own)) found.there }
]

-- ---- methods side by side with their code

runs_code : (body : Body) (code : Code) → body ≡ Runs code → IsTrue (has_code body)
runs_code body code e = ap has_code e

same_code : (a b : Code) → Runs a ≡ Runs b → b ≡ a
same_code a b e = cc

pub record HasCode (codes : List (Option MethodCode)) (pool : List Constant) (code : Code) : Type 0 where
  pub own : MethodCode
  pub there : Contains codes (Some own)
  pub is : code ≡ code_in pool (parts_of own)

code_later : (first : Option MethodCode) (codes : List (Option MethodCode)) (pool : List Constant) (code : Code) → HasCode codes pool code → HasCode (first ∷ codes) pool code
code_later first codes pool code h = record { own = h.own; there = member_later first codes (Some h.own) h.there; is = h.is }

pub code_of_method : (pool : List Constant) (methods : List Method) (codes : List (Option MethodCode)) → FitMethods methods codes → (m : Method) (code : Code)
    → Contains (with_codes pool methods (map (option_map parts_of) codes)) m → m.body ≡ Runs code → HasCode codes pool code
code_of_method pool [] [] fit m code there runs = absurd (member_none m there)
code_of_method pool [] (x ∷ codes) fit m code there runs = absurd fit
code_of_method pool (d ∷ methods) [] fit m code there runs = absurd fit
code_of_method pool (d ∷ methods) (None ∷ codes) fit m code there runs = elim (member_cases d (with_codes pool methods (map (option_map parts_of) codes)) m there) [
  | inl same ↦ absurd (fit.0 (runs_code d.body code (ap (λ (x : Method). x.body) same ∙ runs)))
  | inr later ↦ code_later None codes pool code (code_of_method pool methods codes fit.1 m code later runs)
]
code_of_method pool (d ∷ methods) (Some own ∷ codes) fit m code there runs = elim (member_cases (with_code pool d (Some (parts_of own))) (with_codes pool methods (map (option_map parts_of) codes)) m there) [
  | inl same ↦ record { own = own; there = member_first (Some own) codes; is = same_code (code_in pool (parts_of own)) code (ap (λ (x : Method). x.body) same ∙ runs) }
  | inr later ↦ code_later (Some own) codes pool code (code_of_method pool methods codes fit.1 m code later runs)
]

pub record HasMethod (pool : List Constant) (methods : List Method) (codes : List (Option MethodCode)) (own : MethodCode) : Type 0 where
  pub method : Method
  pub there : Contains (with_codes pool methods (map (option_map parts_of) codes)) method
  pub runs : method.body ≡ Runs (code_in pool (parts_of own))

pub method_of_code : (pool : List Constant) (methods : List Method) (codes : List (Option MethodCode)) → FitMethods methods codes → (own : MethodCode) → Contains codes (Some own) → HasMethod pool methods codes own
method_of_code pool [] [] fit own there = absurd (member_none (Some own) there)
method_of_code pool [] (x ∷ codes) fit own there = absurd fit
method_of_code pool (d ∷ methods) [] fit own there = absurd fit
method_of_code pool (d ∷ methods) (None ∷ codes) fit own there = elim (member_cases None codes (Some own) there) [
  | inl same ↦ absurd cc
  | inr later ↦ let h = method_of_code pool methods codes fit.1 own later in record { method = h.method; there = member_later d (with_codes pool methods (map (option_map parts_of) codes)) h.method h.there; runs = h.runs }
]
method_of_code pool (d ∷ methods) (Some x ∷ codes) fit own there = elim (member_cases (Some x) codes (Some own) there) [
  | inl same ↦ let e : x ≡ own = cc in
      record { method = with_code pool d (Some (parts_of x)); there = member_first (with_code pool d (Some (parts_of x))) (with_codes pool methods (map (option_map parts_of) codes)); runs = ap (λ (y : MethodCode). Runs (code_in pool (parts_of y))) e }
  | inr later ↦ let h = method_of_code pool methods codes fit.1 own later in
      record { method = h.method; there = member_later (with_code pool d (Some (parts_of x))) (with_codes pool methods (map (option_map parts_of) codes)) h.method h.there; runs = h.runs }
]

-- ---- instructions

-- an instruction of the code of a class of the program
pub record Stands (program : Program) (i : Instruction) : Type 0 where
  pub class : Class
  pub there : Contains program class
  pub method : Method
  pub own : Contains class.methods method
  pub code : Code
  pub runs : method.body ≡ Runs code
  pub stands : Contains code.instructions i

-- an instruction of the code of a class
pub record StandsIn (parts : List ClassParts) (i : Instruction) : Type 0 where
  pub class : ClassParts
  pub there : Contains parts class
  pub valid : IsPool class.pool
  pub code : MethodCode
  pub own : Contains class.codes.items (Some code)
  pub instr : Instr
  pub stands : Contains code.code.code instr
  pub is : instruction_in class.pool instr ≡ i

pub stands_in : (program : Program) (parts : List ClassParts) → FitClasses program parts → (i : Instruction) → Stands (program_of_sources (sources_of program parts)) i → StandsIn parts i
unfolding class_of_source code_in
stands_in program parts fit i s =
    let b = beside program parts fit s.class s.there in
    let own : Contains (with_codes b.own.pool b.declared.methods (map (option_map parts_of) b.own.codes.items)) s.method = subst (λ (c : Class). Contains c.methods s.method) b.is s.own in
    let h = code_of_method b.own.pool b.declared.methods b.own.codes.items b.fit.methods s.method s.code own s.runs in
    let found = member_of_map (instruction_in b.own.pool) h.own.code.code i (subst (λ (c : Code). Contains c.instructions i) h.is s.stands) in
    record { class = b.own; there = b.there; valid = b.fit.valid; code = h.own; own = h.there; instr = found.0; stands = found.1; is = found.2 }

pub in_stands : (program : Program) (parts : List ClassParts) → FitClasses program parts → (class : ClassParts) → Contains parts class → (code : MethodCode) → Contains class.codes.items (Some code) → (instr : Instr) → Contains code.code.code instr
    → Stands (program_of_sources (sources_of program parts)) (instruction_in class.pool instr)
unfolding class_of_source code_in
in_stands program parts fit class there code own instr stands =
    let c = class_beside program parts fit class there in
    let m = method_of_code class.pool c.declared.methods class.codes.items c.fit.methods code own in
    record {
      class = class_of_source (source_of c.declared class);
      there = c.there;
      method = m.method;
      own = m.there;
      code = code_in class.pool (parts_of code);
      runs = m.runs;
      stands = member_map (instruction_in class.pool) code.code.code instr stands;
    }

-- ---- types that are used

pub code_of_use : (pool : List Constant) (codes : List (Option MethodCode)) (one : Use) → Contains (flat_map (code_uses pool) codes) one → (code : MethodCode) × Contains codes (Some code) × ((instr : Instr) × Contains code.code.code instr × (use_in pool instr ≡ Some one))
code_of_use pool codes one m =
    let found = member_of_flat_map (code_uses pool) codes one m in by found.0 found.1 found.2 where
      by : (o : Option MethodCode) → Contains codes o → Contains (code_uses pool o) one → (code : MethodCode) × Contains codes (Some code) × ((instr : Instr) × Contains code.code.code instr × (use_in pool instr ≡ Some one))
      by None there n = absurd (member_none one n)
      by (Some code) there n = (code, there, member_of_filter_map (use_in pool) code.code.code one n)

found_use : (pool : List Constant) (o : Option Use) (ty : Ty) → option_and_then (used_type pool) o ≡ Some ty → (one : Use) × (o ≡ Some one) × (used_type pool one ≡ Some ty)
found_use pool None ty e = absurd cc
found_use pool (Some one) ty e = (one, refl, e)

pub types_are_used : (program : Program) (parts : List ClassParts) → FitClasses program parts → (ty : Ty) → Contains (used_types parts) ty ↔ IsUsed (program_of_sources (sources_of program parts)) ty
types_are_used program parts fit ty = (to, from) where
  to : Contains (used_types parts) ty → IsUsed (program_of_sources (sources_of program parts)) ty
  to m =
      let p = member_of_flat_map class_types parts ty m in
      let u = member_of_filter_map (used_type p.0.pool) (class_uses p.0) ty p.2 in
      let c = code_of_use p.0.pool p.0.codes.items u.0 u.1 in
      let s = in_stands program parts fit p.0 p.1 c.0 c.1 c.2.0 c.2.1 in
      let valid = (class_beside program parts fit p.0 p.1).fit.valid in
      record {
        class = s.class;
        there = s.there;
        method = s.method;
        own = s.own;
        code = s.code;
        runs = s.runs;
        instruction = instruction_in p.0.pool c.2.0;
        stands = s.stands;
        uses = (uses_are p.0.pool valid c.2.0 ty).1 (ap (λ (o : Option Use). option_and_then (used_type p.0.pool) o) c.2.2 ∙ u.2);
      }

  from : IsUsed (program_of_sources (sources_of program parts)) ty → Contains (used_types parts) ty
  from used =
      let s = stands_in program parts fit used.instruction (record { class = used.class; there = used.there; method = used.method; own = used.own; code = used.code; runs = used.runs; stands = used.stands }) in
      let u = found_use s.class.pool (use_in s.class.pool s.instr) ty ((uses_are s.class.pool s.valid s.instr ty).0 (subst (λ (i : Instruction). UsesType i ty) (sym s.is) used.uses)) in
      member_flat_map class_types parts s.class ty s.there
      (member_filter_map (used_type s.class.pool) (class_uses s.class) u.0 ty
      (member_flat_map (code_uses s.class.pool) s.class.codes.items (Some s.code) u.0 s.own (member_filter_map (use_in s.class.pool) s.code.code.code s.instr u.0 s.stands u.1)) u.2)

-- ---- arrays that have numbers

-- the classes have the names that they are declared with
same_names : (program : Program) (parts : List ClassParts) → FitClasses program parts → (name : List ℕ) → class_number (program_of_sources (sources_of program parts)) name ≡ class_number program name
unfolding sources_of class_of_source
same_names [] [] fit name = refl
same_names [] (p ∷ parts) fit name = absurd fit
same_names (c ∷ program) [] fit name = absurd fit
same_names (c ∷ program) (p ∷ parts) fit name = ap (λ (o : Option ℕ). if same_name c.name name then Some 0 else option_map suc o) (same_names program parts fit.1 name)

pub same_known : (program : Program) (parts : List ClassParts) → FitClasses program parts → (of : Of) → is_known_of (program_of_sources (sources_of program parts)) of ≡ is_known_of program of
same_known program parts fit (ofs.Base base) = refl
same_known program parts fit (ofs.Class name) = rw (same_names program parts fit name) refl

one_base : (base : Base) (ty : Ty) → IsPartOf ty (base_array base) → ty ≡ base_array base
one_base base ty part = typed (base_array base) ty.dims ty.of (omega (arith, part.array, part.within)) part.same

pub rows_are_numbered : (program : Program) (parts : List ClassParts) → FitClasses program parts → (ty : Ty) → IsRow (wholes_of program parts) ty ↔ IsNumberedArray (program_of_sources (sources_of program parts)) ty
rows_are_numbered program parts fit ty = (to, from) where
  all : Program
  all = program_of_sources (sources_of program parts)

  used_row : (whole : Ty) → Contains (known_types program (used_types parts)) whole → IsPartOf ty whole → IsNumberedArray all ty
  used_row whole m part =
      let found = member_of_filter (λ (t : Ty). is_known_of program t.of) (used_types parts) whole m in
      inr (inr (whole, (types_are_used program parts fit whole).0 found.0, part, same_known program parts fit ty.of ∙ ap (is_known_of program) part.same ∙ found.1))

  to : IsRow (wholes_of program parts) ty → IsNumberedArray all ty
  to row = elim (member_cases (base_array bases.Byte) ((base_array bases.Char ∷ []) ++ known_types program (used_types parts)) row.0 row.1) [
    | inl byte ↦ inl (one_base bases.Byte ty (subst (λ (t : Ty). IsPartOf ty t) (sym byte) row.2))
    | inr more ↦ elim (member_cases (base_array bases.Char) (known_types program (used_types parts)) row.0 more) [
      | inl char ↦ inr (inl (one_base bases.Char ty (subst (λ (t : Ty). IsPartOf ty t) (sym char) row.2)))
      | inr used ↦ used_row row.0 used row.2
    ]
  ]

  itself : (base : Base) → ty ≡ base_array base → IsPartOf ty (base_array base)
  itself base e = subst (λ (t : Ty). IsPartOf t (base_array base)) (sym e) (record { array = omega arith; few = omega arith; within = omega arith; same = refl })

  from : IsNumberedArray all ty → IsRow (wholes_of program parts) ty
  from (inl byte) = (base_array bases.Byte, member_first (base_array bases.Byte) ((base_array bases.Char ∷ []) ++ known_types program (used_types parts)), itself bases.Byte byte)
  from (inr (inl char)) = (base_array bases.Char, member_later (base_array bases.Byte) (base_array bases.Char ∷ known_types program (used_types parts)) (base_array bases.Char) (member_first (base_array bases.Char) (known_types program (used_types parts))), itself bases.Char char)
  from (inr (inr (whole, used, part, known))) = (
    whole,
    member_later (base_array bases.Byte) (base_array bases.Char ∷ known_types program (used_types parts)) whole
        (member_later (base_array bases.Char) (known_types program (used_types parts)) whole
        (member_filter (λ (t : Ty). is_known_of program t.of) (used_types parts) whole ((types_are_used program parts fit whole).1 used) (ap (is_known_of program) (sym part.same) ∙ sym (same_known program parts fit ty.of) ∙ known))),
    part,
  )

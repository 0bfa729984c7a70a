-- The parts that a source's lines say are those of its class file.
use Rattle.std.proofs.Common.{◌≡◌, ℕ, ◌+◌, ◌-◌, ◌<◌, ℤ, List, [], ◌∷◌, ◌++◌, length, map, take, drop, Option, Some, None, refl, sym, ap, ◌∙◌, subst, arith, append_assoc}
use Rattle.std.specs.List.{flat_map, AllByRecursion, AllZip}
use Rattle.std.proofs.lemmas.List.{take-append-drop, take-map, drop-map, take_rest, length-map}
use Rattle.dj_cursor.specs.trusted.Spelling.{u2}
use Rattle.dj_names.specs.trusted.Types.{Name}
use Rattle.dj_class.specs.trusted.ClassFile.{AttributeInfo, MemberInfo, ClassFile, class_bytes}
use Rattle.dj_class.specs.trusted.Code.{CodeInfo, code_info_bytes}
use Rattle.dj_asm_source.specs.declared.syntax.Line as the_line
use Rattle.dj_asm_source.specs.LineViews.{line_view}
use Rattle.dj_asm_source.specs.trusted.Lines.{Value, Line, Class, Super, Implements, Field, Abstract, Beside, Does, End, Aside}
use Rattle.dj_asm_source.specs.trusted.Sources.{Source, FieldSource, BodyPart, Mark, Step, FrameStep, MethodSource, Bodiless, Coded, version_lines, field_line, body_lines, method_lines, head_lines, lines_of}
use Rattle.dj_asm_source.specs.trusted.Labels.{label_number}
use Rattle.dj_asm_source.specs.LabelReading.{sections_of, section_size}
use Rattle.dj_asm_source.proofs.Sections.{source_sections}
use Rattle.dj_asm.specs.declared.heading.Heading.{Heading}
use Rattle.dj_asm_pool.specs.trusted.Entries as entries
use Rattle.dj_asm_pool.specs.trusted.Entries.{Entry, Utf8, pool_of}
use Rattle.dj_asm_pool.specs.trusted.Needs.{value_entry, value_entries, code_name, constant_value_name, head_entries, entries_of, index_in}
use Rattle.dj_asm.specs.trusted.Codes.{IsCodeOf}
use Rattle.dj_asm.specs.trusted.Files.{value_attribute, field_of, places_of, IsMethodOf, major_of, minor_of, class_index, IsFileOf}
use Rattle.dj_asm.specs.trusted.Large.{IsTooLarge}
use Rattle.dj_asm_pool.specs.trusted.Room.{NoLine}
use Rattle.dj_asm.specs.CodeBodies.{IsCodeBody}
use Rattle.dj_asm_pool.specs.Pooling.{found_index}
use Rattle.dj_asm.specs.Assembling.{IsFitting, AreFileBytes}
use Rattle.dj_asm.specs.Filing.{no_heading, heading_from, interface_indexes, constant_bodies, member_with, one_attribute, members_in, stack_at, locals_at, first_reported, IsBody, MayHaveBody, MayHaveBodies, AreBodies, file_in}
use Rattle.dj_asm_pool.proofs.Members.{each_first, each_last}
use Rattle.dj_asm.proofs.BodyLabels.{coded_lines}
use Rattle.dj_asm.proofs.SourceFile.{all_fit_of, method_at}
use Rattle.dj_asm.proofs.FileIndexes.{EachNeed, MethodHas, MethodsHave, SourceHas, IsAlike, all_found}
use Rattle.dj_asm.proofs.FileCodes.{code_alike, body_code}
use Rattle.dj_asm.proofs.FileSteps.{section_at}

-- ---- the lines before the methods, and those of the methods

first_same : {A : Type 0} (x y : A) (xs ys : List A) → x ∷ xs ≡ y ∷ ys → x ≡ y
first_same x y xs ys e = cc

others_same : {A : Type 0} (x y : A) (xs ys : List A) → x ∷ xs ≡ y ∷ ys → xs ≡ ys
others_same x y xs ys e = cc

append_same : {A : Type 0} (xs ys zs : List A) → xs ++ ys ≡ xs ++ zs → ys ≡ zs
append_same [] ys zs e = e
append_same (x ∷ xs) ys zs e = append_same xs ys zs (others_same x x (xs ++ ys) (xs ++ zs) e)

some_lines : (line : Line) (lines : List Line) → 0 < length (line ∷ lines)
some_lines line lines = omega arith

pub record AreParts (s : Source) (head methods : List Line) : Type 0 where
  pub head_is : head ≡ head_lines s
  pub methods_are : methods ≡ flat_map method_lines s.methods
  pub sections : sections_of methods ≡ map method_lines s.methods

source_parts : (s : Source) → AreParts s (take (section_size (lines_of s)) (lines_of s)) (drop (section_size (lines_of s)) (lines_of s))
source_parts s =
    let size = section_size (lines_of s) in
    let head = take size (lines_of s) in
    let methods = drop size (lines_of s) in
    let cut : head ∷ sections_of methods ≡ head_lines s ∷ map method_lines s.methods =
    sym (section_at (lines_of s) (some_lines (Class s.flags s.name) ((version_lines s.version ++ Super s.super ∷ map Implements s.interfaces ++ map field_line s.fields) ++ flat_map method_lines s.methods))) ∙ source_sections s in
    let first : head ≡ head_lines s = first_same head (head_lines s) (sections_of methods) (map method_lines s.methods) cut in
    let whole : head ++ methods ≡ head_lines s ++ flat_map method_lines s.methods = take-append-drop size (lines_of s) in
    record {
      head_is = first;
      methods_are = append_same (head_lines s) methods (flat_map method_lines s.methods) (ap (λ l. l ++ methods) (sym first) ∙ whole);
      sections = others_same head (head_lines s) (sections_of methods) (map method_lines s.methods) cut;
    }

pub parts_are : (s : Source) (lines : List Line) (size : ℕ) → lines ≡ lines_of s → size ≡ section_size lines → AreParts s (take size lines) (drop size lines)
parts_are s lines size are size_is =
    subst (λ (k : ℕ). AreParts s (take k lines) (drop k lines)) (sym size_is)
    (subst (λ ls. AreParts s (take (section_size ls) ls) (drop (section_size ls) ls)) (sym are) (source_parts s))

pub has_lines : (s : Source) (lines : List Line) (kept : List Entry) → IsFitting s lines kept → 0 < length lines
has_lines s lines kept fit =
    subst (λ ls. 0 < length ls) (sym fit.lines_are)
    (some_lines (Class s.flags s.name) ((version_lines s.version ++ Super s.super ∷ map Implements s.interfaces ++ map field_line s.fields) ++ flat_map method_lines s.methods))

-- ---- each method with code may have its body

methods_may : (s : Source) (lines : List Line) (kept : List Entry) → IsFitting s lines kept → (prefix rest : List MethodSource) → s.methods ≡ prefix ++ rest
    → AllByRecursion (MayHaveBody kept) (map method_lines rest)
methods_may s lines kept fit prefix [] e = tt
methods_may s lines kept fit prefix (Bodiless flags name desc ∷ rest) e =
    let method = Bodiless flags name desc in
    (tt, methods_may s lines kept fit (prefix ++ method ∷ []) rest (e ∙ sym (append_assoc prefix (method ∷ []) rest)))
methods_may s lines kept fit prefix (Coded flags name desc stack locals parts ∷ rest) e =
    let method = Coded flags name desc stack locals parts in (
      record {
        source = s;
        before = length (head_lines s) + length (flat_map method_lines prefix);
        in_method = method_at s prefix method rest e;
        allowed = fit.allowed;
        labelled = fit.labelled;
        fits = fit.fits;
        kept_is = fit.kept_is;
      },
      methods_may s lines kept fit (prefix ++ method ∷ []) rest (e ∙ sym (append_assoc prefix (method ∷ []) rest)),
    )

pub may_have : (s : Source) (lines : List Line) (kept : List Entry) (size : ℕ) → IsFitting s lines kept → size ≡ section_size lines → MayHaveBodies kept (drop size lines)
may_have s lines kept size fit size_is =
    subst (AllByRecursion (MayHaveBody kept)) (sym (parts_are s lines size fit.lines_are size_is).sections) (methods_may s lines kept fit [] s.methods refl)

-- ---- what the lines before the methods say

abbrev heading_is : (Entry → ℕ) → ℕ → Name → Option (ℤ × ℤ) → Name → Heading
heading_is index flags name version super = record {
  minor = minor_of version;
  major = major_of version;
  flags = flags;
  this_class = index (entries.Class name);
  super_class = index (entries.Class super);
}

module _ (index : Entry → ℕ) where
  heading_fields : (h : Heading) (fields : List FieldSource) → heading_from index h (map field_line fields) ≡ h
  unfolding heading_from
  heading_fields h [] = refl
  heading_fields h (field ∷ fields) = heading_fields h fields

  heading_names : (h : Heading) (names : List Name) (fields : List FieldSource) → heading_from index h (map Implements names ++ map field_line fields) ≡ h
  unfolding heading_from
  heading_names h [] fields = heading_fields h fields
  heading_names h (name ∷ names) fields = heading_names h names fields

  source_heading : (flags : ℕ) (name : Name) (version : Option (ℤ × ℤ)) (super : Name) (names : List Name) (fields : List FieldSource)
      → heading_from index no_heading (Class flags name ∷ version_lines version ++ Super super ∷ map Implements names ++ map field_line fields) ≡ heading_is index flags name version super
  unfolding heading_from
  source_heading flags name None super names fields = heading_names (heading_is index flags name None super) names fields
  source_heading flags name (Some (major, minor)) super names fields = heading_names (heading_is index flags name (Some (major, minor)) super) names fields

  abbrev index_of_class : Name → ℕ
  index_of_class name = index (entries.Class name)

  no_interfaces : (fields : List FieldSource) → flat_map (interface_indexes index) (map field_line fields) ≡ []
  no_interfaces [] = refl
  no_interfaces (field ∷ fields) = no_interfaces fields

  names_said : (names : List Name) (fields : List FieldSource) → flat_map (interface_indexes index) (map Implements names ++ map field_line fields) ≡ map index_of_class names
  names_said [] fields = no_interfaces fields
  names_said (name ∷ names) fields = ap (λ (l : List ℕ). index_of_class name ∷ l) (names_said names fields)

  source_interfaces : (flags : ℕ) (name : Name) (version : Option (ℤ × ℤ)) (super : Name) (names : List Name) (fields : List FieldSource)
      → flat_map (interface_indexes index) (Class flags name ∷ version_lines version ++ Super super ∷ map Implements names ++ map field_line fields) ≡ map index_of_class names
  source_interfaces flags name None super names fields = names_said names fields
  source_interfaces flags name (Some (major, minor)) super names fields = names_said names fields

  names_without_constants : (names : List Name) (fields : List FieldSource) → flat_map (constant_bodies index) (map Implements names ++ map field_line fields) ≡ flat_map (constant_bodies index) (map field_line fields)
  names_without_constants [] fields = refl
  names_without_constants (name ∷ names) fields = names_without_constants names fields

  source_constants : (flags : ℕ) (name : Name) (version : Option (ℤ × ℤ)) (super : Name) (names : List Name) (fields : List FieldSource)
      → flat_map (constant_bodies index) (Class flags name ∷ version_lines version ++ Super super ∷ map Implements names ++ map field_line fields) ≡ flat_map (constant_bodies index) (map field_line fields)
  source_constants flags name None super names fields = names_without_constants names fields
  source_constants flags name (Some (major, minor)) super names fields = names_without_constants names fields

  names_without_members : (a : ℕ) (bodies : List (List ℕ)) (names : List Name) (fields : List FieldSource)
      → members_in index a bodies (map Implements names ++ map field_line fields) ≡ members_in index a bodies (map field_line fields)
  unfolding members_in
  names_without_members a bodies [] fields = refl
  names_without_members a bodies (name ∷ names) fields = names_without_members a bodies names fields

  source_members : (a : ℕ) (bodies : List (List ℕ)) (flags : ℕ) (name : Name) (version : Option (ℤ × ℤ)) (super : Name) (names : List Name) (fields : List FieldSource)
      → members_in index a bodies (Class flags name ∷ version_lines version ++ Super super ∷ map Implements names ++ map field_line fields) ≡ members_in index a bodies (map field_line fields)
  unfolding members_in
  source_members a bodies flags name None super names fields = names_without_members a bodies names fields
  source_members a bodies flags name (Some (major, minor)) super names fields = names_without_members a bodies names fields

  no_members : (a : ℕ) (bodies : List (List ℕ)) → members_in index a bodies [] ≡ []
  unfolding members_in
  no_members a bodies = refl

  -- one field, and those after it
  field_first : (a : ℕ) (flags : ℕ) (name desc : Name) (value : Option Value) (bodies : List (List ℕ)) (lines : List Line)
      → a ≡ index constant_value_name
      → members_in index a (constant_bodies index (Field flags name desc value) ++ bodies) (Field flags name desc value ∷ lines)
      ≡ member_with index flags name desc (value_attribute index value) ∷ members_in index a bodies lines
  unfolding members_in
  field_first a flags name desc None bodies lines e = refl
  field_first a flags name desc (Some value) bodies lines e =
      ap (λ (k : ℕ). member_with index flags name desc (one_attribute k (u2 (index (value_entry value)))) ∷ members_in index a bodies lines) e

  fields_said : (fields : List FieldSource)
      → members_in index (index constant_value_name) (flat_map (constant_bodies index) (map field_line fields)) (map field_line fields) ≡ map (field_of index) fields
  fields_said [] = no_members (index constant_value_name) []
  fields_said (field ∷ fields) =
      field_first (index constant_value_name) field.flags field.name field.desc field.value (flat_map (constant_bodies index) (map field_line fields)) (map field_line fields) refl
      ∙ ap (λ (l : List MemberInfo). field_of index field ∷ l) (fields_said fields)

  source_fields : (s : Source) → members_in index (index constant_value_name) (flat_map (constant_bodies index) (head_lines s)) (head_lines s) ≡ map (field_of index) s.fields
  source_fields s =
      ap (λ (bodies : List (List ℕ)). members_in index (index constant_value_name) bodies (head_lines s)) (source_constants s.flags s.name s.version s.super s.interfaces s.fields)
      ∙ (source_members (index constant_value_name) (flat_map (constant_bodies index) (map field_line s.fields)) s.flags s.name s.version s.super s.interfaces s.fields
      ∙ fields_said s.fields)

  -- no member begins in a body
  asides_inside : (a : ℕ) (bodies : List (List ℕ)) (asides : List Aside) (more : List Line) → members_in index a bodies (map Beside asides ++ more) ≡ members_in index a bodies more
  unfolding members_in
  asides_inside a bodies [] more = refl
  asides_inside a bodies (aside ∷ asides) more = asides_inside a bodies asides more

  body_inside : (a : ℕ) (bodies : List (List ℕ)) (parts : List BodyPart) (more : List Line) → members_in index a bodies (body_lines parts ++ more) ≡ members_in index a bodies more
  unfolding members_in
  body_inside a bodies [] more = refl
  body_inside a bodies (Mark aside ∷ parts) more = body_inside a bodies parts more
  body_inside a bodies (Step operation ∷ parts) more = body_inside a bodies parts more
  body_inside a bodies (FrameStep frame asides operation ∷ parts) more =
      let whole : (map Beside asides ++ Does operation ∷ []) ++ body_lines parts ++ more ≡ map Beside asides ++ (Does operation ∷ (body_lines parts ++ more)) =
      append_assoc (map Beside asides ++ Does operation ∷ []) (body_lines parts) more ∙ append_assoc (map Beside asides) (Does operation ∷ []) (body_lines parts ++ more) in
      ap (members_in index a bodies) whole ∙ (asides_inside a bodies asides (Does operation ∷ (body_lines parts ++ more)) ∙ body_inside a bodies parts more)

  method_first : (a : ℕ) (body : List ℕ) (bodies : List (List ℕ)) (flags : ℕ) (name desc : Name) (stack locals : ℤ) (parts : List BodyPart) (more : List Line)
      → members_in index a (body ∷ bodies) (method_lines (Coded flags name desc stack locals parts) ++ more) ≡ member_with index flags name desc (one_attribute a body) ∷ members_in index a bodies more
  unfolding members_in
  method_first a body bodies flags name desc stack locals parts more =
      ap (λ (l : List MemberInfo). member_with index flags name desc (one_attribute a body) ∷ l)
      (ap (members_in index a bodies) (append_assoc (body_lines parts) (End ∷ []) more) ∙ body_inside a bodies parts (End ∷ more))

  bodiless_first : (a : ℕ) (body : List ℕ) (bodies : List (List ℕ)) (flags : ℕ) (name desc : Name) (more : List Line)
      → members_in index a (body ∷ bodies) (Abstract flags name desc ∷ more) ≡ member_with index flags name desc [] ∷ members_in index a bodies more
  unfolding members_in
  bodiless_first a body bodies flags name desc more = refl

-- ---- by indexes that are alike

record HeadAlike (f g : Entry → ℕ) (name super : Name) (names : List Name) (fields : List FieldSource) : Type 0 where
  name_is : f (entries.Class name) ≡ g (entries.Class name)
  super_is : f (entries.Class super) ≡ g (entries.Class super)
  names_are : map (λ name. f (entries.Class name)) names ≡ map (λ name. g (entries.Class name)) names
  fields_are : map (field_of f) fields ≡ map (field_of g) fields

module _ (f g : Entry → ℕ) where
  abbrev HeadsAlike : List Line → Type 0
  HeadsAlike lines = EachNeed (IsAlike f g) head_entries lines

  names_alike : (names : List Name) → HeadsAlike (map Implements names) → map (λ name. f (entries.Class name)) names ≡ map (λ name. g (entries.Class name)) names
  names_alike [] h = refl
  names_alike (name ∷ names) h =
      ap (λ (n : ℕ). n ∷ map (λ name. f (entries.Class name)) names) h.0.0 ∙ ap (λ (l : List ℕ). g (entries.Class name) ∷ l) (names_alike names h.1)

  value_alike : (value : Option Value) → AllByRecursion (IsAlike f g) (value_entries value) → value_attribute f value ≡ value_attribute g value
  value_alike None h = refl
  value_alike (Some value) h =
      ap (λ (n : ℕ). one_attribute n (u2 (f (value_entry value)))) h.0 ∙ ap (λ (n : ℕ). one_attribute (g constant_value_name) (u2 n)) h.1.0

  abbrev member : ℕ → List AttributeInfo → ℕ → ℕ → MemberInfo
  member flags attributes name desc = record { flags = flags; name = name; desc = desc; attributes = attributes }

  member_alike : (flags : ℕ) (name desc : Name) (before now : List AttributeInfo) → f (Utf8 name) ≡ g (Utf8 name) → f (Utf8 desc) ≡ g (Utf8 desc) → before ≡ now
      → member_with f flags name desc before ≡ member_with g flags name desc now
  member_alike flags name desc before now n d a =
      ap (λ (k : ℕ). member flags before k (f (Utf8 desc))) n
      ∙ (ap (λ (k : ℕ). member flags before (g (Utf8 name)) k) d ∙ ap (λ (l : List AttributeInfo). member flags l (g (Utf8 name)) (g (Utf8 desc))) a)

  fields_alike : (fields : List FieldSource) → HeadsAlike (map field_line fields) → map (field_of f) fields ≡ map (field_of g) fields
  fields_alike [] h = refl
  fields_alike (field ∷ fields) h =
      ap (λ (m : MemberInfo). m ∷ map (field_of f) fields)
      (member_alike field.flags field.name field.desc (value_attribute f field.value) (value_attribute g field.value) h.0.0 h.0.1.0 (value_alike field.value h.0.1.1))
      ∙ ap (λ (l : List MemberInfo). field_of g field ∷ l) (fields_alike fields h.1)

  head_alike : (flags : ℕ) (name : Name) (version : Option (ℤ × ℤ)) (super : Name) (names : List Name) (fields : List FieldSource)
      → HeadsAlike (Class flags name ∷ version_lines version ++ Super super ∷ map Implements names ++ map field_line fields) → HeadAlike f g name super names fields
  head_alike flags name None super names fields h = record {
    name_is = h.0.0;
    super_is = h.1.0.0;
    names_are = names_alike names (each_first (λ line. AllByRecursion (IsAlike f g) (head_entries line)) (map Implements names) (map field_line fields) h.1.1);
    fields_are = fields_alike fields (each_last (λ line. AllByRecursion (IsAlike f g) (head_entries line)) (map Implements names) (map field_line fields) h.1.1);
  }
  head_alike flags name (Some (major, minor)) super names fields h = record {
    name_is = h.0.0;
    super_is = h.1.1.0.0;
    names_are = names_alike names (each_first (λ line. AllByRecursion (IsAlike f g) (head_entries line)) (map Implements names) (map field_line fields) h.1.1.1);
    fields_are = fields_alike fields (each_last (λ line. AllByRecursion (IsAlike f g) (head_entries line)) (map Implements names) (map field_line fields) h.1.1.1);
  }

  -- the code of a method
  method_code : (flags : ℕ) (name desc : Name) (stack locals : ℤ) (parts : List BodyPart) (code : CodeInfo) → MethodHas (IsAlike f g) (coded_lines flags name desc stack locals parts)
      → IsCodeOf (places_of f (coded_lines flags name desc stack locals parts)) (first_reported stack_at (coded_lines flags name desc stack locals parts)) (first_reported locals_at (coded_lines flags name desc stack locals parts)) (coded_lines flags name desc stack locals parts) code
      → IsCodeOf (places_of g (body_lines parts)) stack locals (body_lines parts) code
  unfolding first_reported
  method_code flags name desc stack locals parts code h is =
      body_code g flags name desc stack locals parts code
      (code_alike f g (label_number (coded_lines flags name desc stack locals parts)) stack locals (coded_lines flags name desc stack locals parts) code h is)

  attribute_alike : (body : List ℕ) (code : CodeInfo) → f code_name ≡ g code_name → body ≡ code_info_bytes code → one_attribute (f code_name) body ≡ one_attribute (g code_name) (code_info_bytes code)
  attribute_alike body code n e = ap (λ (k : ℕ). one_attribute k body) n ∙ ap (λ (l : List ℕ). one_attribute (g code_name) l) e

-- ---- the methods

module _ (kept : List Entry) (g : Entry → ℕ) where
  abbrev found : Entry → ℕ
  found = found_index kept

  -- the first method is this one's, and so on
  and_first : (method : MethodSource) (rest : List MethodSource) (m : MemberInfo) (ms all : List MemberInfo) → all ≡ m ∷ ms → IsMethodOf g method m → AllZip (IsMethodOf g) rest ms
      → AllZip (IsMethodOf g) (method ∷ rest) all
  and_first method rest m ms all e is more = subst (λ l. AllZip (IsMethodOf g) (method ∷ rest) l) (sym e) (is, more)

  pub methods_said : (methods : List MethodSource) (bodies : List (List ℕ)) → MethodsHave (IsAlike found g) methods → AllZip (IsBody kept) (map method_lines methods) bodies
      → AllZip (IsMethodOf g) methods (members_in found (found code_name) bodies (flat_map method_lines methods))
  methods_said [] bodies have are = subst (λ l. AllZip (IsMethodOf g) [] l) (sym (no_members found (found code_name) bodies)) tt
  methods_said (Bodiless flags name desc ∷ rest) [] have are = absurd are
  methods_said (Coded flags name desc stack locals parts ∷ rest) [] have are = absurd are
  methods_said (Bodiless flags name desc ∷ rest) (body ∷ bodies) have are =
      and_first (Bodiless flags name desc) rest (member_with found flags name desc []) (members_in found (found code_name) bodies (flat_map method_lines rest))
      (members_in found (found code_name) (body ∷ bodies) (flat_map method_lines (Bodiless flags name desc ∷ rest)))
      (bodiless_first found (found code_name) body bodies flags name desc (flat_map method_lines rest))
      (member_alike found g flags name desc [] [] have.0.heads.0.0 have.0.heads.0.1.0 refl)
      (methods_said rest bodies have.1 are.1)
  methods_said (Coded flags name desc stack locals parts ∷ rest) (body ∷ bodies) have are =
      let whole = coded_lines flags name desc stack locals parts in
      let is : IsCodeBody found (first_reported stack_at whole) (first_reported locals_at whole) whole body = are.0 in
      and_first (Coded flags name desc stack locals parts) rest (member_with found flags name desc (one_attribute (found code_name) body)) (members_in found (found code_name) bodies (flat_map method_lines rest))
      (members_in found (found code_name) (body ∷ bodies) (flat_map method_lines (Coded flags name desc stack locals parts ∷ rest)))
      (method_first found (found code_name) body bodies flags name desc stack locals parts (flat_map method_lines rest))
      (record {
        code = is.code;
        is_code = method_code found g flags name desc stack locals parts is.code have.0 is.is_code;
        method = member_alike found g flags name desc (one_attribute (found code_name) body) (one_attribute (g code_name) (code_info_bytes is.code))
            have.0.heads.0.0 have.0.heads.0.1.0 (attribute_alike found g body is.code have.0.heads.0.1.1.0 is.spelled);
      })
      (methods_said rest bodies have.1 are.1)

-- ---- the file

-- the file that a source's lines say, with these bodies of methods
abbrev file_said : Source → List (List ℕ) → ClassFile
file_said s bodies =
    file_in (entries_of s) (head_lines s) (flat_map method_lines s.methods) (flat_map (constant_bodies (found_index (entries_of s))) (head_lines s)) bodies

abbrev file_of : Source → Heading → List ℕ → (fields methods : List MemberInfo) → ClassFile
file_of s h interfaces fields methods = record {
  minor = h.minor;
  major = h.major;
  pool = pool_of (entries_of s);
  flags = h.flags;
  this_class = h.this_class;
  super_class = h.super_class;
  interfaces = interfaces;
  fields = fields;
  methods = methods;
  attributes = [];
}

heading_alike : (f g : Entry → ℕ) (flags : ℕ) (name : Name) (version : Option (ℤ × ℤ)) (super : Name) → f (entries.Class name) ≡ g (entries.Class name) → f (entries.Class super) ≡ g (entries.Class super)
    → heading_is f flags name version super ≡ heading_is g flags name version super
heading_alike f g flags name version super n u =
    ap (λ (k : ℕ). with_classes k (f (entries.Class super))) n ∙ ap (λ (k : ℕ). with_classes (g (entries.Class name)) k) u where
      with_classes : ℕ → ℕ → Heading
      with_classes this super = record { minor = minor_of version; major = major_of version; flags = flags; this_class = this; super_class = super }

file_is : (s : Source) → NoLine (IsTooLarge s) → (bodies : List (List ℕ)) → AllZip (IsBody (entries_of s)) (map method_lines s.methods) bodies → IsFileOf s (file_said s bodies)
file_is s fits bodies are =
    let f = found_index (entries_of s) in
    let g = index_in s in
    let have : SourceHas (IsAlike f g) s = all_found s (all_fit_of s fits).pool in
    let head = head_alike f g s.flags s.name s.version s.super s.interfaces s.fields have.heads in
    let methods = members_in f (f code_name) bodies (flat_map method_lines s.methods) in
    let h : heading_from f no_heading (head_lines s) ≡ heading_is g s.flags s.name s.version s.super =
    source_heading f s.flags s.name s.version s.super s.interfaces s.fields ∙ heading_alike f g s.flags s.name s.version s.super head.name_is head.super_is in
    let i : flat_map (interface_indexes f) (head_lines s) ≡ map (class_index s) s.interfaces =
    source_interfaces f s.flags s.name s.version s.super s.interfaces s.fields ∙ head.names_are in
    let fields = members_in f (f constant_value_name) (flat_map (constant_bodies f) (head_lines s)) (head_lines s) in
    let k : fields ≡ map (field_of g) s.fields = source_fields f s ∙ head.fields_are in
    record {
      methods = methods;
      are_methods = methods_said (entries_of s) g s.methods bodies have.methods are;
      file = ap (λ (x : Heading). file_of s x (flat_map (interface_indexes f) (head_lines s)) fields methods) h
          ∙ (ap (λ (x : List ℕ). file_of s (heading_is g s.flags s.name s.version s.super) x fields methods) i
          ∙ ap (λ (x : List MemberInfo). file_of s (heading_is g s.flags s.name s.version s.super) (map (class_index s) s.interfaces) x methods) k);
    }

-- ---- the bytes

pub file_bytes : (s : Source) (lines : List Line) (kept : List Entry) (size : ℕ) (constants bodies : List (List ℕ)) (bytes : List ℕ) → IsFitting s lines kept → size ≡ section_size lines
    → constants ≡ flat_map (constant_bodies (found_index kept)) (take size lines) → AreBodies kept (drop size lines) bodies
    → bytes ≡ class_bytes (file_in kept (take size lines) (drop size lines) constants bodies) → AreFileBytes s bytes
file_bytes s lines kept size constants bodies bytes fit size_is constants_are are spelled =
    let parts = parts_are s lines size fit.lines_are size_is in
    let of_methods : AllZip (IsBody kept) (map method_lines s.methods) bodies = subst (λ sections. AllZip (IsBody kept) sections bodies) parts.sections are in
    let of_entries : AllZip (IsBody (entries_of s)) (map method_lines s.methods) bodies = subst (λ es. AllZip (IsBody es) (map method_lines s.methods) bodies) fit.kept_is of_methods in
    record {
      file = file_said s bodies;
      is_file = file_is s fit.fits bodies of_entries;
      spelled = spelled
          ∙ (ap (λ (x : List (List ℕ)). class_bytes (file_in kept (take size lines) (drop size lines) x bodies)) constants_are
          ∙ (ap (λ (x : List Line). class_bytes (file_in kept x (drop size lines) (flat_map (constant_bodies (found_index kept)) x) bodies)) parts.head_is
          ∙ (ap (λ (x : List Line). class_bytes (file_in kept (head_lines s) x (flat_map (constant_bodies (found_index kept)) (head_lines s)) bodies)) parts.methods_are
          ∙ ap (λ (x : List Entry). class_bytes (file_in x (head_lines s) (flat_map method_lines s.methods) (flat_map (constant_bodies (found_index x)) (head_lines s)) bodies)) fit.kept_is)));
    }

-- ---- the code's lines

module _ (s : Source) (lines : List the_line.Line) (kept : List Entry) (size : ℕ) (fit : IsFitting s (map line_view lines) kept) where
  head_taken : map line_view (take size lines) ≡ take size (map line_view lines)
  head_taken = sym (take-map line_view size lines)

  rest_taken : map line_view (take (length lines - size) (drop size lines)) ≡ drop size (map line_view lines)
  rest_taken = ap (map line_view) (take_rest lines size) ∙ sym (drop-map line_view size lines)

  pub has_code_lines : 0 < length lines
  has_code_lines = let some = has_lines s (map line_view lines) kept fit in let count = length-map lines line_view in omega (arith, some, count)

  pub may_have_code : size ≡ section_size (map line_view lines) → MayHaveBodies kept (map line_view (take (length lines - size) (drop size lines)))
  may_have_code size_is = subst (MayHaveBodies kept) (sym rest_taken) (may_have s (map line_view lines) kept size fit size_is)

  pub code_file : (constants bodies : List (List ℕ)) (bytes : List ℕ) → size ≡ section_size (map line_view lines)
      → constants ≡ flat_map (constant_bodies (found_index kept)) (map line_view (take size lines)) → AreBodies kept (map line_view (take (length lines - size) (drop size lines))) bodies
      → bytes ≡ class_bytes (file_in kept (map line_view (take size lines)) (map line_view (take (length lines - size) (drop size lines))) constants bodies) → AreFileBytes s bytes
  code_file constants bodies bytes size_is constants_are are spelled =
      file_bytes s (map line_view lines) kept size constants bodies bytes fit size_is
      (constants_are ∙ ap (flat_map (constant_bodies (found_index kept))) head_taken)
      (subst (λ ls. AreBodies kept ls bodies) rest_taken are)
      (spelled
      ∙ (ap (λ (x : List Line). class_bytes (file_in kept x (map line_view (take (length lines - size) (drop size lines))) constants bodies)) head_taken
      ∙ ap (λ (x : List Line). class_bytes (file_in kept (take size (map line_view lines)) x constants bodies)) rest_taken))

-- The bytes that a text means are a class file's.
use Rattle.std.proofs.Common.{◌≡◌, ℕ, ◌+◌, ◌*◌, ◌^◌, ◌<◌, ◌≤◌, inr, ℤ, List, [], ◌∷◌, ◌++◌, length, map, Option, Some, None, Contains, codes, refl, sym, ap, ◌∙◌, subst, arith, append_assoc}
use Rattle.std.specs.Prelude.{⊤}
use Rattle.std.specs.List.{flat_map, AllByRecursion, AllZip, count_by}
use Rattle.std.proofs.lemmas.List.{length-append, length-map}
use Rattle.std.proofs.lemmas.List.Concat.{flat_map-append}
use Rattle.std.proofs.lemmas.List.Elements.{Contains-append_left, Contains-append_right}
use Rattle.dj_cursor.specs.trusted.Spelling.{u2, u4, table_bytes}
use Rattle.dj_names.specs.trusted.Names.{IsClassName, IsUnqualifiedName, IsMethodName}
use Rattle.dj_names.specs.trusted.Descriptors.{IsFieldDescriptor, IsMethodDescriptor}
use Rattle.dj_ops.specs.declared.frames.Frame as frames
use Rattle.dj_ops.specs.declared.rows.CatchRow.{CatchRow}
use Rattle.dj_labels.specs.trusted.Labels.{row_of}
use Rattle.dj_labels.proofs.Lists.{each_map}
use Rattle.dj_frames.specs.trusted.Written.{stack_map_bytes}
use Rattle.dj_pool.specs.trusted.Pool.{Constant}
use Rattle.dj_class.specs.trusted.ClassFile.{AttributeInfo, MemberInfo, ClassFile, attribute_bytes, NamesClass, AreAttributes, IsField, IsMethod, IsValid, IsClassFile}
use Rattle.dj_class.specs.trusted.Code.{CodeInfo, row_bytes, code_info_bytes}
use Rattle.dj_asm_source.specs.trusted.Lines as lines
use Rattle.dj_asm_source.specs.trusted.Lines.{Value, Line, Super, Implements, Abstract, Stack, Locals, Beside, End, IsLine}
use Rattle.dj_asm_source.specs.trusted.Sources.{Source, FieldSource, MethodSource, Bodiless, Coded, BodyPart, version_lines, field_line, body_lines, head_lines, method_lines, lines_of, line_items, IsTextOf}
use Rattle.dj_asm_pool.specs.trusted.Entries.{Utf8, Class, pool_of}
use Rattle.dj_asm_pool.specs.trusted.Needs.{code_name, constant_value_name, stack_map_name, value_entries, entries_of, index_in}
use Rattle.dj_asm.specs.trusted.Codes.{Places, frames_in, stack_map_of, IsCodeOf}
use Rattle.dj_asm.specs.trusted.Files.{value_attribute, field_of, places_of, IsMethodOf, major_of, minor_of, class_index, IsFileOf}
use Rattle.dj_asm.specs.trusted.Large.{most_lines, is_catch}
use Rattle.dj_asm.specs.trusted.Texts.{IsTextOfBytes}
use Rattle.dj_asm_pool.proofs.Members.{in_here, in_rest, in_map, each_in, each_from, each_first, each_last}
use Rattle.dj_asm_pool.proofs.RightEntries.{Good, place_fits}
use Rattle.dj_asm_pool.proofs.SourcePool.{lines_good, pool_is_well_formed}
use Rattle.dj_asm.proofs.SourceFile.{AllFit, all_fit_of, method_at}
use Rattle.dj_asm_pool.proofs.NamedEntries.{head_has_entry, text_named, class_named}
use Rattle.dj_asm.proofs.Counts.{count_both, count_fits, few_interfaces, few_fields, few_methods, ranges_counted}
use Rattle.dj_asm.proofs.StackSizes.{weight, sentence_least, stack_map_is_short, part_least}

-- ---- how long the body of a Code attribute is

rows_length : (table : List CatchRow) → length (flat_map row_bytes table) ≡ 8 * length table
rows_length [] = refl
rows_length (row ∷ table) =
    let more = rows_length table in
    let sum = length-append (row_bytes row) (flat_map row_bytes table) in
    omega (arith, more, sum)

attribute_length : (a : AttributeInfo) → length (attribute_bytes a) ≡ 6 + length a.body
attribute_length a = let sum = length-append (u2 a.name ++ u4 (length a.body)) a.body in omega (arith, sum)

map_length : (places : Places) (starts : List ℕ) (list : List frames.Frame) → length (flat_map attribute_bytes (stack_map_of places starts list)) ≤ 6 + length (stack_map_bytes starts list)
map_length places starts [] = omega arith
map_length places starts (frame ∷ others) =
    let whole = attribute_length (record { name = places.index stack_map_name; body = stack_map_bytes starts (frame ∷ others) }) in
    let sum = length-append (attribute_bytes (record { name = places.index stack_map_name; body = stack_map_bytes starts (frame ∷ others) })) [] in
    omega (arith, whole, sum)

table_length : {A : Type 0} (part : A → List ℕ) (parts : List A) → length (table_bytes part parts) ≡ 2 + length (flat_map part parts)
table_length part parts = length-append (u2 (length parts)) (flat_map part parts)

code_length : (c : CodeInfo) → length (code_info_bytes c) ≡ 8 + length c.code + (2 + length (flat_map row_bytes c.table)) + (2 + length (flat_map attribute_bytes c.attributes))
code_length c =
    let prefix = u2 c.max_stack ++ u2 c.max_locals ++ u4 (length c.code) in
    let a = length-append (prefix ++ c.code ++ table_bytes row_bytes c.table) (table_bytes attribute_bytes c.attributes) in
    let b = length-append (prefix ++ c.code) (table_bytes row_bytes c.table) in
    let d = length-append prefix c.code in
    let e = table_length row_bytes c.table in
    let f = table_length attribute_bytes c.attributes in
    omega (arith, a, b, d, e, f)

-- ---- a source

module _ (text : List ℕ) (short : length text ≤ 4294967294) (s : Source) (is : IsTextOf text s) (fits : AllFit s) where
  abbrev pool : List Constant
  pool = pool_of (entries_of s)

  good : (line : Line) → Contains (lines_of s) line → Good line
  good line h = each_in Good (lines_of s) line (lines_good text s is) h

  in_head : (line : Line) → Contains (head_lines s) line → Contains (lines_of s) line
  in_head line h = Contains-append_left (head_lines s) (flat_map method_lines s.methods) line h

  -- ---- versions, this class and its parents

  version_fits : (v : Option (ℤ × ℤ)) → AllByRecursion Good (version_lines v) → (minor_of v < 2 ^ 16) × (major_of v < 2 ^ 16)
  version_fits None g = (omega arith, omega arith)
  version_fits (Some (major, minor)) g = let sized = g.0.1 in (place_fits minor sized.1, place_fits major sized.0)

  abbrev first_part : List Line
  first_part = lines.Class s.flags s.name ∷ version_lines s.version

  abbrev second_part : List Line
  second_part = Super s.super ∷ map Implements s.interfaces

  good_prefix : AllByRecursion Good first_part
  good_prefix =
      each_first Good first_part second_part (each_first Good (first_part ++ second_part) (map field_line s.fields) (each_first Good (head_lines s) (flat_map method_lines s.methods) (lines_good text s is)))

  second_in : (line : Line) → Contains second_part line → Contains (lines_of s) line
  second_in line h = in_head line (Contains-append_left (first_part ++ second_part) (map field_line s.fields) line (Contains-append_right first_part second_part line h))

  this_in : Contains (lines_of s) (lines.Class s.flags s.name)
  this_in =
      in_head (lines.Class s.flags s.name)
      (Contains-append_left (first_part ++ second_part) (map field_line s.fields) (lines.Class s.flags s.name)
      (Contains-append_left first_part second_part (lines.Class s.flags s.name) (in_here (lines.Class s.flags s.name) (version_lines s.version))))

  this_named : NamesClass pool (class_index s s.name)
  this_named = class_named IsClassName text s s.name is (head_has_entry s (lines.Class s.flags s.name) (Class s.name) this_in (in_here (Class s.name) [])) (good (lines.Class s.flags s.name) this_in).0

  super_named : NamesClass pool (class_index s s.super)
  super_named =
      let h = second_in (Super s.super) (in_here (Super s.super) (map Implements s.interfaces)) in
      class_named IsClassName text s s.super is (head_has_entry s (Super s.super) (Class s.super) h (in_here (Class s.super) [])) (good (Super s.super) h).0

  interface_named : (name : List ℕ) → Contains s.interfaces name → NamesClass pool (class_index s name)
  interface_named name k =
      let h = second_in (Implements name) (in_rest (Super s.super) (map Implements s.interfaces) (Implements name) (in_map Implements s.interfaces name k)) in
      class_named IsClassName text s name is (head_has_entry s (Implements name) (Class name) h (in_here (Class name) [])) (good (Implements name) h).0

  -- ---- fields

  value_fits : (value : Option Value) → ((v : Value) → value ≡ Some v → Contains (entries_of s) constant_value_name) → AreAttributes pool (value_attribute (index_in s) value)
  value_fits None named = record { count = omega arith; each = tt }
  value_fits (Some value) named = record { count = omega arith; each = (record { name = text_named (λ _. ⊤) s (codes "ConstantValue") (named value refl) tt; body = omega arith }, tt) }

  field_valid : (f : FieldSource) → Contains s.fields f → IsField pool (field_of (index_in s) f)
  field_valid f k =
      let h = in_head (field_line f) (Contains-append_right (first_part ++ second_part) (map field_line s.fields) (field_line f) (in_map field_line s.fields f k)) in
      let g = good (field_line f) h in
      record {
        flags = g.2.1.0;
        name = text_named IsUnqualifiedName s f.name (head_has_entry s (field_line f) (Utf8 f.name) h (in_here (Utf8 f.name) (Utf8 f.desc ∷ value_entries f.value))) g.0.0;
        desc = text_named IsFieldDescriptor s f.desc
            (head_has_entry s (field_line f) (Utf8 f.desc) h (in_rest (Utf8 f.name) (Utf8 f.desc ∷ value_entries f.value) (Utf8 f.desc) (in_here (Utf8 f.desc) (value_entries f.value)))) g.0.1;
        attributes = value_fits f.value (λ v e. head_has_entry s (field_line f) constant_value_name h
            (subst (λ (o : Option Value). Contains (Utf8 f.name ∷ Utf8 f.desc ∷ value_entries o) constant_value_name) (sym e) (2, omega arith, refl)));
      }

  -- ---- methods

  abbrev before_method : List MethodSource → List Line
  before_method prefix = head_lines s ++ flat_map method_lines prefix

  lines_split : (prefix : List MethodSource) (method : MethodSource) (rest : List MethodSource) → s.methods ≡ prefix ++ method ∷ rest → lines_of s ≡ before_method prefix ++ (method_lines method ++ flat_map method_lines rest)
  lines_split prefix method rest e =
      ap (λ (ms : List MethodSource). head_lines s ++ flat_map method_lines ms) e
      ∙ (ap (λ (ls : List Line). head_lines s ++ ls) (flat_map-append method_lines prefix (method ∷ rest))
      ∙ sym (append_assoc (head_lines s) (flat_map method_lines prefix) (method_lines method ++ flat_map method_lines rest)))

  in_method : (prefix : List MethodSource) (method : MethodSource) (rest : List MethodSource) → s.methods ≡ prefix ++ method ∷ rest → (line : Line) → Contains (method_lines method) line → Contains (lines_of s) line
  in_method prefix method rest e line h =
      subst (λ (ls : List Line). Contains ls line) (sym (lines_split prefix method rest e))
      (Contains-append_right (before_method prefix) (method_lines method ++ flat_map method_lines rest) line (Contains-append_left (method_lines method) (flat_map method_lines rest) line h))

  method_text : (prefix : List MethodSource) (method : MethodSource) (rest : List MethodSource) → s.methods ≡ prefix ++ method ∷ rest → weight (flat_map line_items (method_lines method)) ≤ length text
  method_text prefix method rest e =
      let part = part_least (before_method prefix) (method_lines method) (flat_map method_lines rest) in
      let whole = ap (λ (ls : List Line). weight (flat_map line_items ls)) (lines_split prefix method rest e) in
      let all = sentence_least text s is in
      omega (arith, part, whole, all)

  module _ (flags : ℕ) (name desc : List ℕ) (stack locals : ℤ) (parts : List BodyPart) (prefix rest : List MethodSource) (e : s.methods ≡ prefix ++ Coded flags name desc stack locals parts ∷ rest) where
    abbrev method : MethodSource
    method = Coded flags name desc stack locals parts

    abbrev body : List Line
    body = body_lines parts

    abbrev start : List Line
    start = lines.Method flags name desc ∷ Stack stack ∷ Locals locals ∷ []

    few_catches : count_by is_catch body ≤ most_lines
    few_catches =
        let whole = count_fits is_catch (method_lines method) (λ before line after parts many.
        fits.catches (length (head_lines s) + length (flat_map method_lines prefix) + length before) (record {
          body = method_lines method;
          prefix = before;
          line = line;
          at = record { before = length (head_lines s) + length (flat_map method_lines prefix); in_method = method_at s prefix method rest e; rest = after; parts = parts; place_is = refl };
          too_many = many;
        })) in
        let a = count_both is_catch start (body ++ End ∷ []) in
        let b = count_both is_catch body (End ∷ []) in
        omega (arith, whole, a, b)

    body_allowed : AllByRecursion IsLine body
    body_allowed =
        let all : AllByRecursion Good (before_method prefix ++ (method_lines method ++ flat_map method_lines rest)) = subst (AllByRecursion Good) (lines_split prefix method rest e) (lines_good text s is) in
        let here : AllByRecursion Good (start ++ (body ++ End ∷ [])) =
        each_first Good (method_lines method) (flat_map method_lines rest) (each_last Good (before_method prefix) (method_lines method ++ flat_map method_lines rest) all) in
        each_from IsLine body (λ line h. (each_in Good body line (each_first Good body (End ∷ []) (each_last Good start (body ++ End ∷ []) here)) h).0)

    body_text : weight (flat_map line_items body) ≤ length text
    body_text =
        let part = part_least start body (End ∷ []) in
        let all = method_text prefix method rest e in
        omega (arith, part, all)

    code_short : (places : Places) (c : CodeInfo) → IsCodeOf places stack locals body c → length (code_info_bytes c) < 2 ^ 32
    code_short places c code =
        let size = code_length c in
        let rows = rows_length c.table in
        let bytes : length c.code ≡ length code.laid.code = ap (λ (d : CodeInfo). length d.code) code.code_is in
        let table : length c.table ≡ length code.laid.table = ap (λ (d : CodeInfo). length d.table) code.code_is in
        let ranges : length code.laid.table ≡ length code.labelled.ranges =
        ap length code.laid_out.table ∙ length-map code.labelled.ranges (row_of (code.laid.starts ++ length code.laid.code ∷ [])) in
        let counted : length code.labelled.ranges ≡ count_by is_catch body = ap length code.ranges ∙ ranges_counted places body in
        let attributes : length (flat_map attribute_bytes c.attributes) ≡ length (flat_map attribute_bytes (stack_map_of places code.laid.starts (frames_in places 0 body))) =
        ap (λ (d : CodeInfo). length (flat_map attribute_bytes d.attributes)) code.code_is in
        let map_size = map_length places code.laid.starts (frames_in places 0 body) in
        let map_short = stack_map_is_short places code.laid.starts body body_allowed in
        let few = code.laid_out.short in
        omega (arith, size, rows, bytes, table, ranges, counted, attributes, map_size, map_short, few, few_catches, body_text, short)

    coded_valid : (m : MemberInfo) → IsMethodOf (index_in s) method m → IsMethod pool m
    coded_valid m p =
        let line = lines.Method flags name desc in
        let h = in_method prefix method rest e line (in_here line (Stack stack ∷ (Locals locals ∷ (body ++ End ∷ [])))) in
        let g = good line h in
        subst (IsMethod pool) (sym p.method) (record {
          flags = g.2.1.0;
          name = text_named IsMethodName s name (head_has_entry s line (Utf8 name) h (0, omega arith, refl)) g.0.0;
          desc = text_named IsMethodDescriptor s desc (head_has_entry s line (Utf8 desc) h (1, omega arith, refl)) g.0.1;
          attributes = record {
            count = omega arith;
            each = (
              record {
                name = text_named (λ _. ⊤) s (codes "Code") (head_has_entry s line code_name h (2, omega arith, refl)) tt;
                body = code_short (places_of (index_in s) body) p.code p.is_code;
              },
              tt,
            );
          };
        })

  bodiless_valid : (flags : ℕ) (name desc : List ℕ) (prefix rest : List MethodSource) → s.methods ≡ prefix ++ Bodiless flags name desc ∷ rest → (m : MemberInfo) → IsMethodOf (index_in s) (Bodiless flags name desc) m → IsMethod pool m
  bodiless_valid flags name desc prefix rest e m p =
      let line = Abstract flags name desc in
      let h = in_method prefix (Bodiless flags name desc) rest e line (in_here line []) in
      let g = good line h in
      subst (IsMethod pool) (sym p) (record {
        flags = g.2.1.0;
        name = text_named IsMethodName s name (head_has_entry s line (Utf8 name) h (0, omega arith, refl)) g.0.0;
        desc = text_named IsMethodDescriptor s desc (head_has_entry s line (Utf8 desc) h (1, omega arith, refl)) g.0.1;
        attributes = record { count = omega arith; each = tt };
      })

  methods_valid : (prefix rest : List MethodSource) (ms : List MemberInfo) → s.methods ≡ prefix ++ rest → AllZip (IsMethodOf (index_in s)) rest ms → AllByRecursion (IsMethod pool) ms
  methods_valid prefix [] [] e are = tt
  methods_valid prefix [] (m ∷ ms) e are = absurd are
  methods_valid prefix (source ∷ rest) [] e are = absurd are
  methods_valid prefix (Bodiless flags name desc ∷ rest) (m ∷ ms) e are = (
    bodiless_valid flags name desc prefix rest e m are.0,
    methods_valid (prefix ++ Bodiless flags name desc ∷ []) rest ms (e ∙ sym (append_assoc prefix (Bodiless flags name desc ∷ []) rest)) are.1,
  )
  methods_valid prefix (Coded flags name desc stack locals parts ∷ rest) (m ∷ ms) e are = (
    coded_valid flags name desc stack locals parts prefix rest e m are.0,
    methods_valid (prefix ++ Coded flags name desc stack locals parts ∷ []) rest ms (e ∙ sym (append_assoc prefix (Coded flags name desc stack locals parts ∷ []) rest)) are.1,
  )

  zip_length : (sources : List MethodSource) (ms : List MemberInfo) → AllZip (IsMethodOf (index_in s)) sources ms → length ms ≡ length sources
  zip_length [] [] are = refl
  zip_length [] (m ∷ ms) are = absurd are
  zip_length (source ∷ sources) [] are = absurd are
  zip_length (source ∷ sources) (m ∷ ms) are = let more = zip_length sources ms are.1 in omega (arith, more)

  -- the file of the source is valid
  pub file_is_valid : (c : ClassFile) → IsFileOf s c → IsValid c
  file_is_valid c file =
      let versions = version_fits s.version good_prefix.1 in
      let interfaces = few_interfaces s fits.tables in
      let fields = few_fields s fits.tables in
      let methods = few_methods s fits.tables in
      let as_many = zip_length s.methods file.methods file.are_methods in
      let interface_size = length-map s.interfaces (class_index s) in
      let field_size = length-map s.fields (field_of (index_in s)) in
      subst IsValid (sym file.file) (record {
        minor = versions.0;
        major = versions.1;
        pool = pool_is_well_formed text s is fits.pool;
        flags = (good (lines.Class s.flags s.name) this_in).2.1.0;
        this_class = this_named;
        super_class = inr super_named;
        interface_count = omega (arith, interfaces, interface_size);
        interfaces = each_map (NamesClass pool) (class_index s) s.interfaces (each_from (λ name. NamesClass pool (class_index s name)) s.interfaces interface_named);
        field_count = omega (arith, fields, field_size);
        fields = each_map (IsField pool) (field_of (index_in s)) s.fields (each_from (λ f. IsField pool (field_of (index_in s) f)) s.fields field_valid);
        method_count = omega (arith, methods, as_many);
        methods = methods_valid [] s.methods file.methods refl file.are_methods;
        attributes = record { count = omega arith; each = tt };
      })

-- the bytes that a text means are a class file's; a text has less than 4 GB
pub text_is_class_file : (text bytes : List ℕ) → length text ≤ 4294967294 → IsTextOfBytes text bytes → (c : ClassFile) × IsClassFile bytes c
text_is_class_file text bytes short t = (t.file, record { spelled = t.spelled; valid = file_is_valid text short t.source t.is_text (all_fit_of t.source t.fits) t.file t.is_file })

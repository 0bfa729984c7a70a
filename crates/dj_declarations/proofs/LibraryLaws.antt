-- The rows of a library's methods.
use Rattle.std.proofs.Common.{◌≡◌, ℕ, ◌+◌, ◌<◌, List, [], ◌∷◌, ◌++◌, length, map, take, get_or, All, Option, Some, None, refl, sym, ap, ◌∙◌, subst}
use Rattle.std.specs.List.{AllByRecursion}
use Rattle.std.specs.Option.{is_some}
use Rattle.std.proofs.lemmas.List.{take_more}
use Rattle.std.proofs.lemmas.List.Elements.{recursion_from_All, All-from_recursion}
use Rattle.dj_names.specs.declared.native.NativeId.{NativeId}
use Rattle.dj_names.specs.trusted.Types.{Name}
use Rattle.dj_names.specs.trusted.Descriptors.{desc_text, IsDesc, Describes}
use Rattle.dj_names.specs.trusted.DescReading.{desc_read}
use Rattle.dj_library_types.specs.declared.library.LibMethod.{LibMethod}
use Rattle.dj_library_types.specs.Views.{library_method_view}
use Rattle.dj_model.specs.trusted.Program.{Method}
use Rattle.dj_model.specs.trusted.Libraries.{library_body, library_method}
use Rattle.dj_declarations.specs.declared.members.MemberRow.{MemberRow}
use Rattle.dj_declarations.specs.trusted.Files.{desc_in}
use Rattle.dj_declarations.specs.Texts.{Numbers, number_in, text_in}
use Rattle.dj_declarations.specs.MemberRows.{body_of, row_method, IsSound, AreSound, IsRowOf, AreRowsOf, native_body}
use Rattle.dj_declarations.proofs.TextLaws.{leads_back}
use Rattle.dj_declarations.proofs.DescTests.{desc_in_text, is_descriptor, read_descriptor}

-- ---- a method

native_is : (native : Option NativeId) → body_of (native_body native) ≡ library_body native
native_is None = refl
native_is (Some id) = refl

pub row_of_method : (numbers : Numbers) (m : LibMethod) (text : Name) (n d : ℕ) → IsDesc m.desc → text ≡ desc_text m.desc → number_in numbers m.name ≡ Some n → number_in numbers text ≡ Some d
    → IsRowOf numbers (record { flags = m.flags; name = n; desc = d; body = native_body m.native }) (library_method (library_method_view m))
row_of_method numbers m text n d valid spelled name desc =
    let name_is : text_in numbers n ≡ m.name = leads_back numbers m.name n name in
    let desc_is : text_in numbers d ≡ text = leads_back numbers text d desc in
    let described : Describes text m.desc = record { text_is = spelled; valid = valid } in
    let desc_same : desc_in (text_in numbers d) ≡ m.desc = ap desc_in (desc_is ∙ spelled) ∙ desc_in_text m.desc valid in
    record {
      sound = record {
        name = ap (number_in numbers) name_is ∙ name;
        desc = ap (number_in numbers) desc_is ∙ desc;
        described = ap (λ (t : Name). is_some (desc_read t)) desc_is ∙ read_descriptor text (is_descriptor text m.desc described);
      };
      is = λ i. record { flags = m.flags; name = name_is i; desc = desc_same i; body = native_is m.native i };
    }

-- ---- with more rows

module _ (numbers : Numbers) where
  sound_more : (rows : List MemberRow) (row : MemberRow) → AllByRecursion (IsSound numbers) rows → IsSound numbers row → AllByRecursion (IsSound numbers) (rows ++ row ∷ [])
  sound_more [] row all last = (last, tt)
  sound_more (r ∷ rows) row all last = (all.0, sound_more rows row all.1 last)

  methods_more : (rows : List MemberRow) (row : MemberRow) (m : Method) → row_method numbers row ≡ m → map (row_method numbers) (rows ++ row ∷ []) ≡ map (row_method numbers) rows ++ m ∷ []
  methods_more [] row m is = ap (λ (x : Method). x ∷ []) is
  methods_more (r ∷ rows) row m is = ap (λ (xs : List Method). row_method numbers r ∷ xs) (methods_more rows row m is)

  rows_more : (rows : List MemberRow) (row : MemberRow) (ms : List Method) (m : Method) → AreRowsOf numbers rows ms → IsRowOf numbers row m → AreRowsOf numbers (rows ++ row ∷ []) (ms ++ m ∷ [])
  rows_more rows row ms m are is = record {
    sound = All-from_recursion (IsSound numbers) (rows ++ row ∷ []) (sound_more rows row (recursion_from_All (IsSound numbers) rows are.sound) is.sound);
    are = methods_more rows row m is.is ∙ ap (λ (xs : List Method). xs ++ m ∷ []) are.are;
  }

-- ---- a loop's step

abbrev methods_of : List LibMethod → List Method
methods_of ms = map library_method (map library_method_view ms)

pushed : (ms : List LibMethod) (m : LibMethod) → methods_of (ms ++ m ∷ []) ≡ methods_of ms ++ library_method (library_method_view m) ∷ []
pushed [] m = refl
pushed (x ∷ ms) m = ap (λ (xs : List Method). library_method (library_method_view x) ∷ xs) (pushed ms m)

pub taken_more : (ms : List LibMethod) (i : ℕ) (m : LibMethod) → i < length ms → m ≡ get_or ms i m → methods_of (take i ms) ++ library_method (library_method_view m) ∷ [] ≡ methods_of (take (i + 1) ms)
taken_more ms i m lt is =
    sym (pushed (take i ms) m) ∙ ap (λ (x : LibMethod). methods_of (take i ms ++ x ∷ [])) is ∙ ap methods_of (sym (take_more ms i m lt))

pub rows_of_more : (numbers : Numbers) (ms : List LibMethod) (i : ℕ) (m : LibMethod) (rows more : List MemberRow) (row : MemberRow) → i < length ms → m ≡ get_or ms i m
    → AreRowsOf numbers rows (methods_of (take i ms)) → IsRowOf numbers row (library_method (library_method_view m)) → more ≡ rows ++ row ∷ [] → AreRowsOf numbers more (methods_of (take (i + 1) ms))
rows_of_more numbers ms i m rows more row lt item are is pushed_is =
    subst (λ (xs : List MemberRow). AreRowsOf numbers xs (methods_of (take (i + 1) ms))) (sym pushed_is)
    (subst (AreRowsOf numbers (rows ++ row ∷ [])) (taken_more ms i m lt item) (rows_more numbers rows row (methods_of (take i ms)) (library_method (library_method_view m)) are is))

-- before the first
pub no_rows : (numbers : Numbers) → AreRowsOf numbers [] []
no_rows numbers = record { sound = All-from_recursion (IsSound numbers) [] tt; are = refl }

-- a library's class has no fields that a name reaches
pub library_sound : (numbers : Numbers) (fields rows methods : List MemberRow) (ms : List Method) → fields ≡ [] → methods ≡ rows → AreRowsOf numbers rows ms → AreSound numbers fields methods
library_sound numbers fields rows methods ms none same are = record {
  fields_are = subst (λ (xs : List MemberRow). All (IsSound numbers) xs) (sym none) (All-from_recursion (IsSound numbers) [] tt);
  methods_are = subst (λ (xs : List MemberRow). All (IsSound numbers) xs) (sym same) are.sound;
}

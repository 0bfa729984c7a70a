-- What the use of an argument adds to the rows.
use Rattle.std.proofs.Common.{◌≡◌, ◌∙◌, ◌++◌, Bool, true, false, List, [], ◌∷◌, Option, Some, None, refl, ap, sym, cond, true≢false, codes, unwrap_or}
use Rattle.std.specs.Prelude.{find, is_some, option_map, option_and_then, slice_get}
use Rattle.std.specs.Str.{bytes_eq}
use Rattle.std.proofs.lemmas.Slice.Eq.{bytes_eq-Decides}
use Rattle.clap.specs.Words.{Row, Rule, Text, all_of, first_of}
use Rattle.clap.specs.Walk.{more_values, has_row, at_row, without, with_values, used, reading_by, stronger}
use Rattle.clap.specs.declared.builder.value_parser.Reading.{Reading}
use Rattle.clap.specs.declared.parser.matches.ValueSource.TheVariants.{CommandLine}
use Rattle.dj_command_line.proofs.Rules.{command_rule, words_rule, long_rule}

-- what is changed at a row that isn't there stands at the end
absent : (id : Text) (change : Row → List Row) (missing rows : List Row) → has_row id rows ≡ false → at_row id change missing rows ≡ rows ++ missing
absent id change missing [] none = refl
absent id change missing (r ∷ rs) none = go (bytes_eq r.id id) refl (absent id change missing rs) where
  go : (b : Bool) → bytes_eq r.id id ≡ b → (has_row id rs ≡ false → at_row id change missing rs ≡ rs ++ missing) → at_row id change missing (r ∷ rs) ≡ (r ∷ rs) ++ missing
  go true e rest = absurd (true≢false (rw e at none))
  go false e rest =
      let later : at_row id change missing rs ≡ rs ++ missing = rest (rw e at none) in
      rw e (ap (λ (l : List Row). r ∷ l) later)

append_nothing : (rows : List Row) → rows ++ [] ≡ rows
append_nothing [] = refl
append_nothing (r ∷ rs) = ap (λ (l : List Row). r ∷ l) (append_nothing rs)

kept : (id : Text) (rows : List Row) → has_row id rows ≡ false → without id rows ≡ rows
kept id rows none = absent id (λ _. []) [] rows none ∙ append_nothing rows

-- an argument that has no row gets one, and the last argument gets one more value
abbrev pub added : Rule → Text → List Row → List Row
added a v rows = with_values a.id (reading_by a) CommandLine (v ∷ []) rows

pub used_option : (name v : Text) (rows : List Row) → has_row name rows ≡ false → used (long_rule name) (v ∷ []) rows ≡ added (long_rule name) v rows
used_option name v rows none = ap (λ (rs : List Row). added (long_rule name) v rs) (kept name rows none)

pub used_command : (v : Text) (rows : List Row) → has_row (codes "command") rows ≡ false → used command_rule (v ∷ []) rows ≡ added command_rule v rows
used_command v rows none = ap (λ (rs : List Row). added command_rule v rs) (kept (codes "command") rows none)

pub used_words : (v : Text) (rows : List Row) → used words_rule (v ∷ []) rows ≡ added words_rule v rows
used_words v rows = refl

-- ---- what the rows then have

next_row : (id : Text) (r : Row) (rows : List Row) → all_of id (r ∷ rows) ≡ cond (bytes_eq r.id id) (Some r.values) (all_of id rows)
next_row id r rows = go (bytes_eq r.id id) refl where
  go : (b : Bool) → bytes_eq r.id id ≡ b → all_of id (r ∷ rows) ≡ cond (bytes_eq r.id id) (Some r.values) (all_of id rows)
  go true e = rw e refl
  go false e = rw e refl

pub values_here : (id v : Text) (how : Reading) (rows : List Row) → bytes_eq id id ≡ true
    → all_of id (with_values id how CommandLine (v ∷ []) rows) ≡ Some (unwrap_or (all_of id rows) [] ++ v ∷ [])
values_here id v how [] same = rw same refl
values_here id v how (r ∷ rs) same = go (bytes_eq r.id id) refl (values_here id v how rs same) where
  go : (b : Bool) → bytes_eq r.id id ≡ b → all_of id (with_values id how CommandLine (v ∷ []) rs) ≡ Some (unwrap_or (all_of id rs) [] ++ v ∷ [])
      → all_of id (with_values id how CommandLine (v ∷ []) (r ∷ rs)) ≡ Some (unwrap_or (all_of id (r ∷ rs)) [] ++ v ∷ [])
  go true e rest =
      let later : List Row = with_values id how CommandLine (v ∷ []) rs in
      let changed : Row = record r { values = r.values ++ v ∷ []; source = Some (stronger r.source CommandLine) } in
      ap (λ (b : Bool). all_of id (cond b (more_values CommandLine (v ∷ []) r ++ rs) (r ∷ later))) e
      ∙ next_row id changed rs ∙ ap (λ (b : Bool). cond b (Some (r.values ++ v ∷ [])) (all_of id rs)) e
      ∙ ap (λ (o : Option (List Text)). Some (unwrap_or o [] ++ v ∷ [])) (sym (next_row id r rs ∙ ap (λ (b : Bool). cond b (Some r.values) (all_of id rs)) e))
  go false e rest =
      let later : List Row = with_values id how CommandLine (v ∷ []) rs in
      ap (λ (b : Bool). all_of id (cond b (more_values CommandLine (v ∷ []) r ++ rs) (r ∷ later))) e
      ∙ next_row id r later ∙ ap (λ (b : Bool). cond b (Some r.values) (all_of id later)) e ∙ rest
      ∙ ap (λ (o : Option (List Text)). Some (unwrap_or o [] ++ v ∷ [])) (sym (next_row id r rs ∙ ap (λ (b : Bool). cond b (Some r.values) (all_of id rs)) e))

elsewhere : (r id other : Text) → bytes_eq r id ≡ true → bytes_eq id other ≡ false → bytes_eq r other ≡ false
elsewhere r id other same differ = ap (λ (t : Text). bytes_eq t other) ((bytes_eq-Decides r id).0 same) ∙ differ

pub values_elsewhere : (id other v : Text) (how : Reading) (rows : List Row) → bytes_eq id other ≡ false
    → all_of other (with_values id how CommandLine (v ∷ []) rows) ≡ all_of other rows
values_elsewhere id other v how [] differ = rw differ refl
values_elsewhere id other v how (r ∷ rs) differ = go (bytes_eq r.id id) refl (values_elsewhere id other v how rs differ) where
  go : (b : Bool) → bytes_eq r.id id ≡ b → all_of other (with_values id how CommandLine (v ∷ []) rs) ≡ all_of other rs
      → all_of other (with_values id how CommandLine (v ∷ []) (r ∷ rs)) ≡ all_of other (r ∷ rs)
  go true e rest =
      let differs : bytes_eq r.id other ≡ false = elsewhere r.id id other e differ in
      rw (e, differs) refl
  go false e rest =
      let later : List Row = with_values id how CommandLine (v ∷ []) rs in
      ap (λ (b : Bool). all_of other (cond b (more_values CommandLine (v ∷ []) r ++ rs) (r ∷ later))) e
      ∙ next_row other r later ∙ ap (λ (o : Option (List Text)). cond (bytes_eq r.id other) (Some r.values) o) rest ∙ sym (next_row other r rs)

-- ---- two ways to look at a row

pub has_row_is : (id : Text) (rows : List Row) → has_row id rows ≡ is_some (all_of id rows)
has_row_is id [] = refl
has_row_is id (r ∷ rs) = go (bytes_eq r.id id) refl (has_row_is id rs) where
  go : (b : Bool) → bytes_eq r.id id ≡ b → has_row id rs ≡ is_some (all_of id rs) → has_row id (r ∷ rs) ≡ is_some (all_of id (r ∷ rs))
  go true e rest = rw e refl
  go false e rest = rw e rest

head_of_row : (o : Option Row) → option_and_then (λ (r : Row). slice_get r.values 0) o ≡ option_and_then (λ (vs : List Text). slice_get vs 0) (option_map (λ (r : Row). r.values) o)
head_of_row None = refl
head_of_row (Some r) = refl

pub first_is_head : (id : Text) (rows : List Row) → first_of id rows ≡ option_and_then (λ (vs : List Text). slice_get vs 0) (all_of id rows)
first_is_head id rows = head_of_row (find (λ r. bytes_eq r.id id) rows)

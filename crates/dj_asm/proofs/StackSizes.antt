-- The stack map of a method is shorter than the text that says it: of four bytes in it at least three of the text's words are one's own.
use Rattle.std.proofs.Common.{◌≡◌, ℕ, zero, suc, ◌+◌, ◌-◌, ◌*◌, ◌≤◌, inl, inr, Bool, cond, not, List, [], ◌∷◌, ◌++◌, length, map, take, drop, Option, Some, None, codes, refl, ap, arith}
use Rattle.std.specs.Prelude.{◌==◌, ◌||◌, slice_index, bytes_eq}
use Rattle.std.specs.List.{flat_map, AllByRecursion, AllZip, list_all, prefix_len, enumerate_from, slice_split, onto_first}
use Rattle.std.specs.Str.Lines.{strip_carriage_return, lines_of_parts, lines}
use Rattle.std.proofs.lemmas.Bool.{cond_both}
use Rattle.std.proofs.lemmas.List.{length-append, length-take}
use Rattle.std.proofs.lemmas.List.Sums.{prefix_len-le-length}
use Rattle.std.proofs.lemmas.List.Concat.{flat_map-append}
use Rattle.dj_ops.specs.declared.frames.VType.{VType}
use Rattle.dj_ops.specs.declared.frames.VType.TheVariants as types
use Rattle.dj_ops.specs.declared.frames.Form.{Form}
use Rattle.dj_cursor.specs.trusted.Spelling.{table_bytes}
use Rattle.dj_frames.specs.trusted.StackMaps.{type_bytes, form_bytes}
use Rattle.dj_frames.specs.trusted.Written.{short_tag, head_with, head_bytes, frame_bytes, frames_bytes, stack_map_bytes}
use Rattle.dj_asm_tokens.specs.trusted.Words.{is_blank, is_plain, begins_escape, escaped_unit, word_units, Opened, string_units, Token, Word, Quoted, LineEnd, Placed, Piece, bad, word_piece, string_piece, comment_piece, piece_of, placed_at, tokens_after, line_tokens, tokens_of}
use Rattle.dj_asm_source.specs.trusted.Items.{Item, Exactly, Flags, Number, Called, Text, Ended, Says}
use Rattle.dj_asm_source.specs.trusted.Lines.{FrameType, Simple, Object, New, Frame, Same, Stack1, Chop, Append, Full, Line, Framed, Does, IsSimpleType, IsFrameType, IsFrame, IsLine, type_item, items_of}
use Rattle.dj_asm_source.specs.trusted.Sources.{Source, line_items, sentence, token_of, IsTextOf}
use Rattle.dj_asm.specs.trusted.Codes.{Places, simple_type, type_of, form_of, frames_in}

-- ---- the words of a text have at most its bytes

abbrev word_size : Token → ℕ
word_size (Word units) = length units
word_size token = 0

abbrev sizes : List Token → ℕ
sizes [] = 0
sizes (t ∷ ts) = word_size t + sizes ts

abbrev placed_sizes : List Placed → ℕ
placed_sizes [] = 0
placed_sizes (t ∷ ts) = word_size t.token + placed_sizes ts

placed_append : (xs ys : List Placed) → placed_sizes (xs ++ ys) ≡ placed_sizes xs + placed_sizes ys
placed_append [] ys = omega arith
placed_append (x ∷ xs) ys = let r = placed_append xs ys in omega (arith, r)

units_few : (skipped : ℕ) (bytes : List ℕ) → length (word_units skipped bytes) ≤ length bytes
unfolding word_units
units_few zero [] = omega arith
units_few (suc skipped) [] = omega arith
units_few (suc skipped) (b ∷ bs) = let r = units_few skipped bs in omega (arith, r)
units_few zero (b ∷ bs) =
    cond_both (begins_escape (b ∷ bs)) (escaped_unit (b ∷ bs) ∷ word_units 5 bs) (b ∷ word_units 0 bs) (λ l. length l ≤ suc (length bs))
    (λ escape. let r = units_few 5 bs in omega (arith, r))
    (λ plain. let r = units_few 0 bs in omega (arith, r))

-- the words of a piece have at most its bytes, and it has at most those that are left
abbrev IsWithin : List ℕ → Piece → Type 0
IsWithin bytes piece = (sizes piece.tokens ≤ piece.size) × (piece.size ≤ length bytes)

bad_within : (bytes : List ℕ) → IsWithin bytes (bad bytes)
bad_within bytes = (omega arith, omega arith)

-- a string's piece, by what its units are
abbrev string_of : List ℕ → Opened → Piece
string_of bytes None = bad bytes
string_of bytes (Some (units, more)) =
    cond ((length more == 0) || is_blank (slice_index more 0)) (record { tokens = Quoted units ∷ []; size = length bytes - length more }) (bad bytes)

opened_within : (bytes : List ℕ) (o : Opened) → IsWithin bytes (string_of bytes o)
opened_within bytes None = bad_within bytes
opened_within bytes (Some (units, more)) =
    cond_both ((length more == 0) || is_blank (slice_index more 0)) (record { tokens = Quoted units ∷ []; size = length bytes - length more }) (bad bytes) (IsWithin bytes)
    (λ closed. (omega arith, omega arith)) (λ other. bad_within bytes)

string_within : (bytes : List ℕ) → IsWithin bytes (string_piece bytes)
string_within bytes = opened_within bytes (string_units 0 (drop 1 bytes))

word_within : (bytes : List ℕ) → IsWithin bytes (word_piece bytes)
word_within bytes =
    let size = prefix_len (λ b. not (is_blank b)) bytes in
    let few = units_few 0 (take size bytes) in
    let taken = length-take size bytes in
    let le = prefix_len-le-length (λ b. not (is_blank b)) bytes in
    cond_both (list_all is_plain (take size bytes)) (record { tokens = Word (word_units 0 (take size bytes)) ∷ []; size = size }) (bad bytes) (IsWithin bytes)
    (λ plain. (omega (arith, few, taken, le), le)) (λ other. bad_within bytes)

comment_within : (bytes : List ℕ) → IsWithin bytes (comment_piece bytes)
comment_within bytes = cond_both (list_all (λ b. is_plain b || is_blank b) bytes) (record { tokens = []; size = length bytes }) (bad bytes) (IsWithin bytes) (λ so. (omega arith, omega arith)) (λ other. bad_within bytes)

piece_within : (bytes : List ℕ) → IsWithin bytes (piece_of bytes)
piece_within bytes =
    cond_both (slice_index bytes 0 == 35) (comment_piece bytes) (cond (slice_index bytes 0 == 34) (string_piece bytes) (word_piece bytes)) (IsWithin bytes) (λ so. comment_within bytes)
    (λ other. cond_both (slice_index bytes 0 == 34) (string_piece bytes) (word_piece bytes) (IsWithin bytes) (λ so. string_within bytes) (λ other. word_within bytes))

placed_same : (line column : ℕ) (tokens : List Token) → placed_sizes (placed_at line column tokens) ≡ sizes tokens
placed_same line column [] = refl
placed_same line column (t ∷ ts) = ap (λ (n : ℕ). word_size t + n) (placed_same line column ts)

tokens_few : (line column skipped : ℕ) (bytes : List ℕ) → skipped ≤ length bytes → placed_sizes (tokens_after line column skipped bytes) + skipped ≤ length bytes
unfolding tokens_after
tokens_few line column zero [] le = omega arith
tokens_few line column (suc skipped) [] le = absurd (omega (arith, le))
tokens_few line column (suc skipped) (b ∷ bs) le = let r = tokens_few line (column + 1) skipped bs (omega (arith, le)) in omega (arith, r)
tokens_few line column zero (b ∷ bs) le =
    let piece = piece_of (b ∷ bs) in
    let rest = tokens_after line (column + 1) (piece.size - 1) bs in
    let within = piece_within (b ∷ bs) in
    let few = within.0 in
    let size = within.1 in
    let r = tokens_few line (column + 1) (piece.size - 1) bs (omega (arith, size)) in
    let sum = placed_append (placed_at line column piece.tokens) rest in
    let same = placed_same line column piece.tokens in
    cond_both (is_blank b) (tokens_after line (column + 1) 0 bs) (placed_at line column piece.tokens ++ rest) (λ l. placed_sizes l + 0 ≤ suc (length bs))
    (λ blank. let s = tokens_few line (column + 1) 0 bs (omega arith) in omega (arith, s))
    (λ other. omega (arith, r, sum, same, few, size))

abbrev ended_at : ℕ → List ℕ → List Placed → List Placed
ended_at line bytes [] = []
ended_at line bytes (first ∷ more) = first ∷ more ++ record { line = line; column = length bytes + 1; token = LineEnd } ∷ []

ended_same : (line : ℕ) (bytes : List ℕ) (tokens : List Placed) → placed_sizes (ended_at line bytes tokens) ≡ placed_sizes tokens
ended_same line bytes [] = refl
ended_same line bytes (first ∷ more) = let sum = placed_append (first ∷ more) (record { line = line; column = length bytes + 1; token = LineEnd } ∷ []) in omega (arith, sum)

line_few : (line : ℕ × List ℕ) → placed_sizes (line_tokens line) ≤ length line.1
line_few (line, bytes) =
    let same = ended_same line bytes (tokens_after line 1 0 bytes) in
    let few = tokens_few line 1 0 bytes (omega arith) in
    omega (arith, same, few)

abbrev total : List (List ℕ) → ℕ
total [] = 0
total (l ∷ ls) = length l + total ls

lines_few : (n : ℕ) (all : List (List ℕ)) → placed_sizes (flat_map line_tokens (enumerate_from n all)) ≤ total all
lines_few n [] = omega arith
lines_few n (l ∷ all) =
    let first = line_few (n, l) in
    let more = lines_few (n + 1) all in
    let sum = placed_append (line_tokens (n, l)) (flat_map line_tokens (enumerate_from (n + 1) all)) in
    omega (arith, first, more, sum)

strip_few : (l : List ℕ) → length (strip_carriage_return l) ≤ length l
strip_few l =
    let taken = length-take (length l - 1) l in
    cond_both (slice_index l (length l - 1) == 13) (take (length l - 1) l) l (λ x. length x ≤ length l) (λ so. omega (arith, taken)) (λ other. omega arith)

parts_few : (parts : List (List ℕ)) → total (lines_of_parts parts) ≤ total parts
parts_few [] = omega arith
parts_few (x ∷ []) = cond_both (length x == 0) [] (x ∷ []) (λ l. total l ≤ length x + 0) (λ so. omega arith) (λ other. omega arith)
parts_few (x ∷ (y ∷ more)) =
    let first = strip_few x in
    let rest = parts_few (y ∷ more) in
    omega (arith, first, rest)

onto_one : (x : ℕ) (parts : List (List ℕ)) → total (onto_first x parts) ≡ suc (total parts)
onto_one x [] = refl
onto_one x (part ∷ parts) = omega arith

split_few : (p : ℕ → Bool) (bytes : List ℕ) → total (slice_split p bytes) ≤ length bytes
split_few p [] = omega arith
split_few p (x ∷ xs) =
    let r = split_few p xs in
    let o = onto_one x (slice_split p xs) in
    cond_both (p x) ([] ∷ slice_split p xs) (onto_first x (slice_split p xs)) (λ l. total l ≤ suc (length xs)) (λ so. omega (arith, r)) (λ other. omega (arith, r, o))

words_few : (text : List ℕ) → placed_sizes (tokens_of text) ≤ length text
words_few text =
    let a = lines_few 1 (lines text) in
    let b = parts_few (slice_split (λ b. b == 10) text) in
    let c = split_few (λ b. b == 10) text in
    omega (arith, a, b, c)

-- ---- the least that items take of a text

abbrev pub least : Item → ℕ
least (Exactly units) = length units
least (Called prefix text) = length prefix
least item = 0

abbrev pub weight : List Item → ℕ
weight [] = 0
weight (x ∷ xs) = least x + weight xs

weight_append : (xs ys : List Item) → weight (xs ++ ys) ≡ weight xs + weight ys
weight_append [] ys = omega arith
weight_append (x ∷ xs) ys = let r = weight_append xs ys in omega (arith, r)

item_least : (item : Item) (token : Token) → Says item token → least item ≤ word_size token
item_least (Exactly units) token says = let e = ap word_size says in omega (arith, e)
item_least (Flags flags) token says = omega arith
item_least (Number number) token says = omega arith
item_least (Called prefix text) token says =
    let e = ap word_size says.word in
    let sum = length-append prefix says.units in
    omega (arith, e, sum)
item_least (Text units) token says = omega arith
item_least Ended token says = omega arith

items_least : (items : List Item) (tokens : List Placed) → AllZip Says items (map token_of tokens) → weight items ≤ placed_sizes tokens
items_least [] [] says = omega arith
items_least [] (t ∷ ts) says = absurd says
items_least (x ∷ items) [] says = absurd says
items_least (x ∷ items) (t ∷ ts) says =
    let first = item_least x t.token says.0 in
    let more = items_least items ts says.1 in
    omega (arith, first, more)

-- the items of a source take at most its text
pub sentence_least : (text : List ℕ) (s : Source) → IsTextOf text s → weight (sentence s) ≤ length text
sentence_least text s is =
    let a = items_least (sentence s) (tokens_of text) is.read in
    let b = words_few text in
    omega (arith, a, b)

-- ---- frames

simple_one : (starts word : List ℕ) → length (type_bytes starts (simple_type word)) ≤ 1
simple_one starts word =
    let P = λ (t : VType). length (type_bytes starts t) ≤ 1 in
    let last = cond (bytes_eq word (codes "this")) types.UninitializedThis types.Top in
    let null = cond (bytes_eq word (codes "null")) types.Null last in
    let long = cond (bytes_eq word (codes "long")) types.Long null in
    let double = cond (bytes_eq word (codes "double")) types.Double long in
    let float = cond (bytes_eq word (codes "float")) types.Float double in
    cond_both (bytes_eq word (codes "int")) types.Integer float P (λ e. omega arith)
    (λ e. cond_both (bytes_eq word (codes "float")) types.Float double P (λ e. omega arith)
    (λ e. cond_both (bytes_eq word (codes "double")) types.Double long P (λ e. omega arith)
    (λ e. cond_both (bytes_eq word (codes "long")) types.Long null P (λ e. omega arith)
    (λ e. cond_both (bytes_eq word (codes "null")) types.Null last P (λ e. omega arith)
    (λ e. cond_both (bytes_eq word (codes "this")) types.UninitializedThis types.Top P (λ e. omega arith) (λ e. omega arith))))))

simple_long : (word : List ℕ) → IsSimpleType word → 3 ≤ length word
simple_long word (inl e) = let n = ap length e in omega (arith, n)
simple_long word (inr (inl e)) = let n = ap length e in omega (arith, n)
simple_long word (inr (inr (inl e))) = let n = ap length e in omega (arith, n)
simple_long word (inr (inr (inr (inl e)))) = let n = ap length e in omega (arith, n)
simple_long word (inr (inr (inr (inr (inl e))))) = let n = ap length e in omega (arith, n)
simple_long word (inr (inr (inr (inr (inr (inl e)))))) = let n = ap length e in omega (arith, n)
simple_long word (inr (inr (inr (inr (inr (inr e)))))) = let n = ap length e in omega (arith, n)

module _ (places : Places) (starts : List ℕ) where
  type_short : (type : FrameType) → IsFrameType type → 4 * length (type_bytes starts (type_of places type)) ≤ 3 * least (type_item type)
  type_short (Simple word) is =
      let one = simple_one starts word in
      let three = simple_long word is in
      omega (arith, one, three)
  type_short (Object name) is = omega arith
  type_short (New label) is = let sum = length-append (codes "new:") label in omega (arith, sum)

  types_short : (list : List FrameType) → AllByRecursion IsFrameType list → 4 * length (flat_map (type_bytes starts) (map (type_of places) list)) ≤ 3 * weight (map type_item list)
  types_short [] is = omega arith
  types_short (type ∷ list) is =
      let first = type_short type is.0 in
      let more = types_short list is.1 in
      let sum = length-append (type_bytes starts (type_of places type)) (flat_map (type_bytes starts) (map (type_of places) list)) in
      omega (arith, first, more, sum)

  head_short : (delta : ℕ) (form : Form) → length (head_bytes delta form) ≤ 3
  head_short delta form = by (short_tag delta form) where
    by : (o : Option ℕ) → length (head_with delta form o) ≤ 3
    by None = omega arith
    by (Some tag) = omega arith

  table_short : (list : List VType) → length (table_bytes (type_bytes starts) list) ≡ 2 + length (flat_map (type_bytes starts) list)
  table_short list = omega arith

  form_short : (frame : Frame) → IsFrame frame → 12 + 4 * length (form_bytes starts (form_of places frame)) ≤ 3 * weight (items_of (Framed frame))
  form_short Same is = omega arith
  form_short (Stack1 type) is = let t = type_short type is in omega (arith, t)
  form_short (Chop n) is = omega arith
  form_short (Append list) is = let t = types_short list is.2 in omega (arith, t)
  form_short (Full locals stack) is =
      let l = types_short locals is.0 in
      let r = types_short stack is.1 in
      let table_l = table_short (map (type_of places) locals) in
      let table_r = table_short (map (type_of places) stack) in
      let sum = length-append (table_bytes (type_bytes starts) (map (type_of places) locals)) (table_bytes (type_bytes starts) (map (type_of places) stack)) in
      let w = weight_append (map type_item locals) (Exactly (codes "/") ∷ map type_item stack) in
      omega (arith, l, r, table_l, table_r, sum, w)

  frame_short : (delta : ℕ) (frame : Frame) (at : ℕ) → IsFrame frame → 4 * length (frame_bytes starts delta (record { at = at; form = form_of places frame })) ≤ 3 * weight (items_of (Framed frame))
  frame_short delta frame at is =
      let head = head_short delta (form_of places frame) in
      let form = form_short frame is in
      let sum = length-append (head_bytes delta (form_of places frame)) (form_bytes starts (form_of places frame)) in
      omega (arith, head, form, sum)

  -- the frames of lines
  frames_short : (first number : ℕ) (body : List Line) → AllByRecursion IsLine body → 4 * length (frames_bytes starts first (frames_in places number body)) ≤ 3 * weight (flat_map line_items body)
  unfolding frames_bytes frames_in
  frames_short first number [] is = omega arith
  frames_short first number (Framed frame ∷ body) is =
      let at = slice_index starts number in
      let here = frame_short (at - first) frame number is.0 in
      let more = frames_short (at + 1) number body is.1 in
      let sum = length-append (frame_bytes starts (at - first) (record { at = number; form = form_of places frame })) (frames_bytes starts (at + 1) (frames_in places number body)) in
      let whole = weight_append (line_items (Framed frame)) (flat_map line_items body) in
      let line = weight_append (items_of (Framed frame)) (Ended ∷ []) in
      omega (arith, here, more, sum, whole, line)
  frames_short first number (Does operation ∷ body) is =
      let more = frames_short first (number + 1) body is.1 in
      let whole = weight_append (line_items (Does operation)) (flat_map line_items body) in
      omega (arith, more, whole)
  frames_short first number (line ∷ body) is =
      let more = frames_short first number body is.1 in
      let whole = weight_append (line_items line) (flat_map line_items body) in
      omega (arith, more, whole)

  -- the stack map of lines is short
  pub stack_map_is_short : (body : List Line) → AllByRecursion IsLine body → 4 * length (stack_map_bytes starts (frames_in places 0 body)) ≤ 8 + 3 * weight (flat_map line_items body)
  stack_map_is_short body is =
      let short = frames_short 0 0 body is in
      omega (arith, short)

-- a part of a source's lines has at most the source's items
pub part_least : (xs ys zs : List Line) → weight (flat_map line_items ys) ≤ weight (flat_map line_items (xs ++ (ys ++ zs)))
part_least xs ys zs =
    let a = ap weight (flat_map-append line_items xs (ys ++ zs)) in
    let b = weight_append (flat_map line_items xs) (flat_map line_items (ys ++ zs)) in
    let c = ap weight (flat_map-append line_items ys zs) in
    let d = weight_append (flat_map line_items ys) (flat_map line_items zs) in
    omega (arith, a, b, c, d)

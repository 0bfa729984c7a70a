-- The reader's own: what the bytes of a text show of it, whatever their order is.
use Rattle.std.specs.Prelude.{ℕ, Bool, not, ◌||◌, nat_eq, nat_lt, List, bytes_eq, codes}
use Rattle.std.specs.List.{list_any}
use Rattle.dj_names.specs.trusted.NameReading.{is_stop}
use Rattle.dj_pool.specs.declared.scan.ByteMarks.{ByteMarks}

-- .  ;  [
abbrev pub is_stop_byte : ℕ → Bool
is_stop_byte b = is_stop b

-- <  >
abbrev pub is_angle : ℕ → Bool
is_angle b = nat_eq b 60 || nat_eq b 62

-- a byte that is no unit's spelling alone
abbrev pub is_foreign : ℕ → Bool
is_foreign b = nat_eq b 0 || nat_lt 127 b

abbrev pub is_special : List ℕ → Bool
is_special text = bytes_eq text (codes "<init>") || bytes_eq text (codes "<clinit>")

-- neither  <  nor  >  but in the two special names
abbrev pub has_method_angles : List ℕ → Bool
has_method_angles text = not (list_any is_angle text) || is_special text

abbrev pub marks_of : List ℕ → ByteMarks
marks_of text = record {
  stop = list_any is_stop_byte text;
  slash = list_any (λ b. nat_eq b 47) text;
  angle = list_any is_angle text;
}

abbrev pub has_foreign : List ℕ → Bool
has_foreign text = list_any is_foreign text

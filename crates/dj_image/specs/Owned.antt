-- Used by the code alone: the constants that kept entries show.
use Rattle.dj_pool.specs.trusted.Pool.{Constant, Utf8, Integer, Float, Long, Double, Class, Text, Field, Method, InterfaceMethod, NameAndType, Handle, MethodType, Dynamic, Hole}
use Rattle.dj_image.specs.declared.owned.OwnedEntry.{OwnedEntry}
use Rattle.dj_image.specs.declared.owned.OwnedEntry.TheVariants as entries

abbrev pub constant_of_owned : OwnedEntry → Constant
constant_of_owned (entries.Utf8 text) = Utf8 text
constant_of_owned (entries.Integer n) = Integer n
constant_of_owned (entries.Float bits) = Float bits
constant_of_owned (entries.Long n) = Long n
constant_of_owned (entries.Double bits) = Double bits
constant_of_owned (entries.Class name) = Class name
constant_of_owned (entries.Text text) = Text text
constant_of_owned (entries.Field class names) = Field class names
constant_of_owned (entries.Method class names) = Method class names
constant_of_owned (entries.InterfaceMethod class names) = InterfaceMethod class names
constant_of_owned (entries.NameAndType name desc) = NameAndType name desc
constant_of_owned (entries.Handle kind member) = Handle kind member
constant_of_owned (entries.MethodType desc) = MethodType desc
constant_of_owned (entries.Dynamic bootstrap names) = Dynamic bootstrap names
constant_of_owned entries.Hole = Hole

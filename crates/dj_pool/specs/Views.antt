-- What the entries of a pool show.
use Rattle.dj_pool.specs.declared.pool.Entry.{Entry}
use Rattle.dj_pool.specs.declared.pool.Entry.TheVariants as entries
use Rattle.dj_pool.specs.trusted.Pool.{Constant, Utf8, Integer, Float, Long, Double, Class, Text, Field, Method, InterfaceMethod, NameAndType, Handle, MethodType, Dynamic, Hole}

abbrev pub constant_of : Entry → Constant
constant_of (entries.Utf8 text) = Utf8 text.now
constant_of (entries.Integer n) = Integer n
constant_of (entries.Float bits) = Float bits
constant_of (entries.Long n) = Long n
constant_of (entries.Double bits) = Double bits
constant_of (entries.Class name) = Class name
constant_of (entries.Text text) = Text text
constant_of (entries.Field class name_and_type) = Field class name_and_type
constant_of (entries.Method class name_and_type) = Method class name_and_type
constant_of (entries.InterfaceMethod class name_and_type) = InterfaceMethod class name_and_type
constant_of (entries.NameAndType name desc) = NameAndType name desc
constant_of (entries.Handle kind member) = Handle kind member
constant_of (entries.MethodType desc) = MethodType desc
constant_of (entries.Dynamic bootstrap name_and_type) = Dynamic bootstrap name_and_type
constant_of entries.Hole = Hole

-- What a cursor shows.
use Rattle.dj_cursor.specs.declared.cursor.Cursor as the_cursor
use Rattle.dj_cursor.specs.Reading.{Cursor}

abbrev pub cursor_of : the_cursor.Cursor → Cursor
cursor_of c = record { place = c.place; rest = c.rest.now }

-- The settings of a drill as a settings file's text: the two lines' tables, with an empty line between them.
use Rattle.std.specs.Prelude.{ℕ, ◌+◌, List, [], ◌∷◌, ◌++◌, codes}
use Rattle.drill.specs.declared.slot.Line.{Line}
use Rattle.drill.specs.declared.slot.Line.TheVariants.{First, Second}
use Rattle.drill.specs.Slots.{sv_id_of}
use Rattle.drill.specs.DrillSettings.{number_of, name_of, gocb_ref_of}

abbrev pub top_text : List ℕ
top_text =
    codes "version = 1\n"
    ++ codes "start = \"2024-01-01T00:00:00Z\"\n"
    ++ codes "rate = 4800\n"
    ++ codes "nominal = 50\n"
    ++ codes "heartbeat_ms = 1000\n"
    ++ codes "\n"

-- the line's number as a digit
abbrev pub digit_of : Line → List ℕ
digit_of line = (48 + number_of line) ∷ []

unfoldable pub line_text : Line → List ℕ
line_text line =
    codes "[[line]]\n"
    ++ codes "name = \""
    ++ name_of line
    ++ codes "\"\n"
    ++ codes "sv_id = \""
    ++ sv_id_of line
    ++ codes "\"\n"
    ++ codes "conf_rev = 1\n"
    ++ codes "line_r = 0\n"
    ++ codes "line_x = 15000\n"
    ++ codes "k0_re = 600\n"
    ++ codes "k0_im = 0\n"
    ++ codes "i_min = 200000\n"
    ++ codes "i0_min = 100000\n"
    ++ codes "dir_i2 = 100000\n"
    ++ codes "mem_u = 1000000\n"
    ++ codes "mem_ms = 200\n"
    ++ codes "trip_min_ms = 100\n"
    ++ codes "open_i = 50000\n"
    ++ codes "open_ms = 20\n"
    ++ codes "\n"
    ++ codes "[line.goose]\n"
    ++ codes "dst = \"01-0C-CD-01-00-0"
    ++ digit_of line
    ++ codes "\"\n"
    ++ codes "src = \"02-00-00-00-00-02\"\n"
    ++ codes "appid = "
    ++ digit_of line
    ++ codes "\n"
    ++ codes "gocb_ref = \""
    ++ gocb_ref_of line
    ++ codes "\"\n"
    ++ codes "dat_set = \"P1/LLN0$DS1\"\n"
    ++ codes "go_id = \"G1\"\n"
    ++ codes "conf_rev = 1\n"
    ++ codes "\n"
    ++ codes "[[line.zone]]\n"
    ++ codes "shape = \"mho\"\n"
    ++ codes "dir = \"forward\"\n"
    ++ codes "reach_r = 0\n"
    ++ codes "reach_x = 12500\n"
    ++ codes "delay_ms = 0\n"
    ++ codes "trip = true\n"
    ++ codes "swing_block = false\n"
    ++ codes "load_block = false\n"

unfoldable pub drill_text : List ℕ
drill_text = top_text ++ line_text First ++ codes "\n" ++ line_text Second

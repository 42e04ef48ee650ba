-- The cases at the edges, P1 to P12: each runs the whole definitions from a state in which a wrong answer would show.
use Rattle.std.specs.Prelude.{ℕ, ◌+◌, ◌≡◌, true, false, List, [], ◌∷◌, ◌++◌, set, replicate, Option, None, Some, Ok}
use Rattle.std.proofs.lemmas.List.Edits.{sets}
use Rattle.chip.specs.State.{with_lost}
use Rattle.chip.specs.Calls.{control_write, data_write, data_write_vram, data_write_map, status_read}
use Rattle.scanline.specs.Calls.{colours, draw_line}
use Rattle.chip.specs.declared.state.Chip.{Chip}

-- A case: its number, and what it claims.
pub record Case : Type 1 where
  pub number : ℕ
  pub claim : Type 0

-- The state, and the lists that the port calls are lent.
pub record PortBench : Type 0 where
  pub chip : Chip
  pub vram : List ℕ
  pub map : List ℕ

-- The port calls of the cases, one after another.
abbrev pub control : ℕ → PortBench → PortBench
control b p = record { chip = (control_write p.chip p.vram b).chip; vram = p.vram; map = p.map }

abbrev pub write : ℕ → PortBench → PortBench
write b p =
    record {
      chip = (data_write p.chip p.vram p.map b).chip;
      vram = data_write_vram p.chip p.vram p.map b;
      map = data_write_map p.chip p.vram p.map;
    }

abbrev pub status : PortBench → PortBench
status p = record { chip = (status_read p.chip).chip; vram = p.vram; map = p.map }

-- Different bytes at 3FFF, 0, 42 and 43, so that a wrong address shows.
abbrev pub memory : List ℕ
memory = set (set (set (set (replicate 16384 0) 0x3FFF 0x5C) 0 0xA3) 0x42 0x17) 0x43 0x2E

-- No byte is dirty.
abbrev pub none_dirty : List ℕ
none_dirty = replicate 2048 0

-- No register, address, buffer, status or count of lost first bytes is zero, and the redraw mark is clear.
abbrev pub registers : List ℕ
registers = 0x02 ∷ 0xE0 ∷ 0x05 ∷ 0x80 ∷ 0x01 ∷ 0x20 ∷ 0x03 ∷ 0xF1 ∷ []

abbrev pub lost_before : ℕ
lost_before = 0x03FF

abbrev pub state : ℕ → ℕ → Option ℕ → ℕ → Chip
state address buffer waiting status =
    record { registers = registers; address = address; buffer = buffer; waiting = waiting; status = status; redraw = false; lost = lost_before }

abbrev pub start : PortBench
start = record { chip = state 0x1234 0x99 None 0x4C; vram = memory; map = none_dirty }

-- P1: control 42, 40, data AA: VRAM 0042 and the buffer are AA, the address 0043; the byte is dirty, and all else stays.
abbrev pub P1 : Type 0
P1 = write 0xAA (control 0x40 (control 0x42 start)) ≡ record { chip = state 0x43 0xAA None 0x4C; vram = set memory 0x42 0xAA; map = set none_dirty 8 4 }

-- P2: control FF, 7F, data 11: VRAM 3FFF is 11, and the address goes on to 0.
abbrev pub P2 : Type 0
P2 = write 0x11 (control 0x7F (control 0xFF start)) ≡ record { chip = state 0 0x11 None 0x4C; vram = set memory 0x3FFF 0x11; map = set none_dirty 2047 128 }

-- P3: control FF, 3F: the buffer is VRAM 3FFF, and the address goes on to 0.
abbrev pub P3 : Type 0
P3 = control 0x3F (control 0xFF start) ≡ record { chip = state 0 0x5C None 0x4C; vram = memory; map = none_dirty }

-- P4: control FF, 82: register 2 keeps 0F, and the address is 02FF; the register altered, so the redraw mark is set.
abbrev pub P4 : Type 0
P4 =
    control 0x82 (control 0xFF start)
    ≡ record {
      chip =
          record {
            registers = set registers 2 0x0F;
            address = 0x02FF;
            buffer = 0x99;
            waiting = None;
            status = 0x4C;
            redraw = true;
            lost = lost_before;
          };
      vram = memory;
      map = none_dirty;
    }

-- P5: control FF, status read, control 07: 07 waits, as the status read dropped FF, and the count has risen by one. Address and
-- registers stay.
abbrev pub P5 : Type 0
P5 =
    control 0x07 (status (control 0xFF start))
    ≡ record { chip = with_lost (lost_before + 1) (state 0x1234 0x99 (Some 0x07) 0x0C); vram = memory; map = none_dirty }

-- A memory for one sprite: attributes at 1000 with a terminator behind it, its pattern at 1800, its colour 15. Names,
-- patterns and colours of the plane are zero.
abbrev pub with_sprite : ℕ → ℕ → ℕ → List ℕ → List ℕ
with_sprite y x c patterns =
    sets (sets (replicate 16384 0) 0x1000 (y ∷ x ∷ 0 ∷ c ∷ 208 ∷ [])) 0x1800 patterns

-- Graphics I, display on, backdrop 5, sprites by the low bits of register 1.
abbrev pub sprite_registers : ℕ → List ℕ
sprite_registers shape = 0x00 ∷ (0x40 + shape) ∷ 0x00 ∷ 0x20 ∷ 0x01 ∷ 0x20 ∷ 0x03 ∷ 0x05 ∷ []

-- A pattern of which row n alone is set, and one that is set all over.
abbrev pub only_row : ℕ → ℕ → List ℕ
only_row rows n = sets (replicate rows 0) n (0xFF ∷ [])

abbrev pub all_set : List ℕ
all_set = replicate 32 0xFF

-- P6: a 32-high sprite on line 0: Y 224 covers it with offset 31, which is row 15; Y 223 does not.
abbrev pub P6 : Type 0
P6 =
    (colours (sprite_registers 3) (with_sprite 224 0 15 (only_row 16 15 ++ only_row 16 15)) 0 ≡ replicate 32 15 ++ replicate 224 5)
    × (colours (sprite_registers 3) (with_sprite 223 0 15 all_set) 0 ≡ replicate 256 5)

-- P7: an 8-high sprite on line 0: Y 248 covers it (row 7) and 247 does not; 255 gives row 0, and 0 does not cover.
abbrev pub P7 : Type 0
P7 =
    (colours (sprite_registers 0) (with_sprite 248 100 15 (only_row 8 7)) 0 ≡ replicate 100 5 ++ (replicate 8 15 ++ replicate 148 5))
    × (colours (sprite_registers 0) (with_sprite 247 100 15 all_set) 0 ≡ replicate 256 5)
    × (colours (sprite_registers 0) (with_sprite 255 100 15 (only_row 8 0)) 0 ≡ replicate 100 5 ++ (replicate 8 15 ++ replicate 148 5))
    × (colours (sprite_registers 0) (with_sprite 0 100 15 all_set) 0 ≡ replicate 256 5)

-- P8: early clock, width 32, all pattern bits set: X 1 reaches column 0 only, X 0 none of the 256.
abbrev pub P8 : Type 0
P8 =
    (colours (sprite_registers 3) (with_sprite 255 1 0x8F all_set) 0 ≡ 15 ∷ replicate 255 5)
    × (colours (sprite_registers 3) (with_sprite 255 0 0x8F all_set) 0 ≡ replicate 256 5)

-- P9: sprites 0, 3, 5, 9 and 12 cover line 100 side by side, with no column in common on the screen or beside it; the others
-- do not cover it, and there is no terminator.
abbrev pub covering : ℕ → List ℕ
covering x = 99 ∷ x ∷ 0 ∷ 15 ∷ []

abbrev pub apart : List ℕ
apart = 0 ∷ 0 ∷ 0 ∷ 15 ∷ []

abbrev pub five_sprites : List ℕ
five_sprites =
    covering 0 ++ (apart ++ (apart ++ (covering 20 ++ (apart ++ (covering 40 ++ (apart ++ (apart ++ (apart ++ (covering 60 ++ (apart ++ (apart ++ covering 80)))))))))))

abbrev pub with_five : List ℕ
with_five = sets (sets (replicate 16384 0) 0x1000 five_sprites) 0x1800 all_set

-- The state before line 100 is drawn, with this status, and the state after it.
abbrev pub sprite_state : ℕ → Chip
sprite_state s =
    record { registers = sprite_registers 0; address = 0x1234; buffer = 0x99; waiting = None; status = s; redraw = false; lost = lost_before }

abbrev pub after100 : ℕ → Chip
after100 s = (draw_line (sprite_state s) with_five (replicate 256 0) (replicate 256 0) 100).chip

-- The number is taken only while 5S and F are clear: status 00 becomes 4C, 80 stays 80, 45 stays 45. Nothing else of the state
-- changes.
abbrev pub P9 : Type 0
P9 = (after100 0x00 ≡ sprite_state 0x4C) × (after100 0x80 ≡ sprite_state 0x80) × (after100 0x45 ≡ sprite_state 0x45)

-- P10: reading status 4C returns 4C and leaves 0C.
abbrev pub P10 : Type 0
P10 = status_read start.chip ≡ record { chip = state 0x1234 0x99 None 0x0C; result = Ok 0x4C }

-- P11: all planes 0: colour 1 with external video off, 0 with it on.
abbrev pub P11 : Type 0
P11 =
    (colours (0x00 ∷ 0x40 ∷ 0x00 ∷ 0x20 ∷ 0x01 ∷ 0x20 ∷ 0x03 ∷ 0x00 ∷ []) (replicate 16384 0) 96 ≡ replicate 256 1)
    × (colours (0x01 ∷ 0x40 ∷ 0x00 ∷ 0x20 ∷ 0x01 ∷ 0x20 ∷ 0x03 ∷ 0x00 ∷ []) (replicate 16384 0) 96 ≡ replicate 256 0)

-- P12: Multicolor, line 191: cell 0 of the last row of names has name 2, whose eight bytes differ; byte 7 is taken.
abbrev pub P12 : Type 0
P12 =
    colours (0x00 ∷ 0x48 ∷ 0x00 ∷ 0x00 ∷ 0x01 ∷ 0x20 ∷ 0x03 ∷ 0x05 ∷ [])
    (sets (sets (sets (replicate 16384 0) 736 (2 ∷ [])) 0x810 (0x12 ∷ 0x34 ∷ 0x56 ∷ 0x78 ∷ 0x9A ∷ 0xBC ∷ 0xDE ∷ 0xF6 ∷ [])) 0x1000 (208 ∷ []))
    191
    ≡ replicate 4 15 ++ (replicate 4 6 ++ replicate 248 5)

-- The list of all cases.
abbrev pub cases : List Case
cases =
    record { number = 1; claim = P1 }
    ∷ record { number = 2; claim = P2 }
    ∷ record { number = 3; claim = P3 }
    ∷ record { number = 4; claim = P4 }
    ∷ record { number = 5; claim = P5 }
    ∷ record { number = 6; claim = P6 }
    ∷ record { number = 7; claim = P7 }
    ∷ record { number = 8; claim = P8 }
    ∷ record { number = 9; claim = P9 }
    ∷ record { number = 10; claim = P10 }
    ∷ record { number = 11; claim = P11 }
    ∷ record { number = 12; claim = P12 }
    ∷ []

-- What it means that every case of a list holds.
abbrev pub AllHold : List Case → Type 0
AllHold [] = Unit {0}
AllHold (c ∷ cs) = c.claim × AllHold cs

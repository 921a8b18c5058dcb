-- The script that is generated. Clients are numbered from 1, and so are their images; the turns,
-- in each of which every client has one command, from 0.
use Rattle.std.specs.Prelude.{ℕ, ◌+◌, ◌-◌, ◌*◌, ◌/◌, ◌%◌, ◌==◌, false, if◌then◌else◌, List, ◌∷◌, ◌++◌, map, codes, decimal, Some, None}
use Rattle.std.specs.List.{range_with_len}
use Rattle.rbd_commands.specs.declared.command.Command.{Command}
use Rattle.rbd_commands.specs.declared.command.Command.TheVariants as command
use Rattle.rbd_commands.specs.declared.command.Shape.{Shape}
use Rattle.rbd_kinds.specs.declared.id.SiteId.TheVariants.{A}
use Rattle.rbd_script.specs.declared.script.Declared.{Declared}
use Rattle.rbd_script.specs.declared.script.Line.{Line}
use Rattle.rbd_script.specs.declared.script.Said.TheVariants as said
use Rattle.rbd_script.specs.declared.script.Script.{Script}
use Rattle.rbd_words.specs.declared.load.Load.{Load}

-- ---- who, and whose

-- `g1`, and its image `i1`
abbrev pub client_name : (client : ℕ) → List ℕ
client_name client = codes "g" ++ decimal client

abbrev pub image_name : (client : ℕ) → List ℕ
image_name client = codes "i" ++ decimal client

-- a client of site a, on the line of its number
abbrev pub client_of : (client : ℕ) → Declared
client_of client = record { line = client; name = client_name client; home = A }

-- ---- what a client does

-- an image of 256 objects of 4,096 bytes
abbrev pub generated_shape : Shape
generated_shape = record { object = Some 4096; unit = None; count = None; journal = false }

abbrev pub image_size : ℕ
image_size = 1048576

abbrev pub create_of : (client : ℕ) → Command
create_of client = command.Create (image_name client) image_size generated_shape

-- the number that is drawn for a client's command in a turn
abbrev pub drawn : Load → (client turn : ℕ) → ℕ
drawn load client turn = (7 * load.seed + 31 * client + 17 * turn) % 65536

-- whose image the command is for: in each turn each client's is another
abbrev pub owner : Load → (client turn : ℕ) → ℕ
owner load client turn = 1 + (client + turn) % load.clients

-- the bytes from here on: one of the 16,384 places that are a multiple of 64
abbrev pub write_place : (number : ℕ) → ℕ
write_place number = 64 * (number % 16384)

-- Of four numbers one is a read, one a discard, and two are fills, each of 64 bytes.
abbrev pub command_by : (number : ℕ) → (image : List ℕ) → Command
command_by number image =
    if number % 4 == 1 then command.Read image None (write_place number) 64
    else if number % 4 == 2 then command.Discard image (write_place number) 64
    else command.Fill image (write_place number) 64 (number % 256)

abbrev pub generated_command : Load → (client turn : ℕ) → Command
generated_command load client turn = command_by (drawn load client turn) (image_name (owner load client turn))

-- ---- the lines

-- the command of a client, which waits for those before it
abbrev pub waiting_command : (number client : ℕ) → Command → Line
waiting_command number client c = record { number = number; said = said.Command (client - 1) false c }

-- behind the clients each makes its image
abbrev pub create_line : Load → (client : ℕ) → Line
create_line load client = waiting_command (load.clients + client) client (create_of client)

-- then all images are made
abbrev pub settle_line : Load → Line
settle_line load = record { number = 2 * load.clients + 1; said = said.Settle 1000000 }

-- then turn follows turn, and in each the clients have their commands one after another: these are
-- all commands by their places, from 0
abbrev pub command_line : Load → (at : ℕ) → Line
command_line load at =
    let client : ℕ = 1 + at % load.clients in
    waiting_command (2 * load.clients + 2 + at) client (generated_command load client (at / load.clients))

abbrev pub generated_lines : Load → List Line
generated_lines load =
    map (create_line load) (range_with_len 1 load.clients)
    ++ settle_line load ∷ map (command_line load) (range_with_len 0 (load.commands * load.clients))

abbrev pub script_of : Load → Script
script_of load = record { sessions = map client_of (range_with_len 1 load.clients); lines = generated_lines load }

-- How most worlds of the examples begin: the link of a host is made active with full power, reset by the controller, and pipe 01 is opened.
use Prim.Native.String.{String}
use Rattle.std.specs.Prelude.{List, [], ◌∷◌, ◌++◌}

-- the link of a host, which is given as two digits, is made active with an identifier of these bytes, and comes up
abbrev pub host_activates : String → String → String → List String
host_activates h high low =
    "activate " ∷ h ∷ " " ∷ high ∷ low ∷ " 01\ndeliver " ∷ h ∷ "c\ndeliver " ∷ h ∷ "h\ndeliver " ∷ h ∷ "c\nreset " ∷ h ∷ "c\ndeliver " ∷ h ∷ "h\ndeliver " ∷
    h ∷ "c\n" ∷ []

-- what is told behind the answer to the identifier, of the session with this number
abbrev pub host_comes_up_told : String → String → List String
host_comes_up_told h session =
    "> deliver " ∷ h ∷ "h\ntook " ∷ h ∷ "h 6201\nactive " ∷ h ∷ "h\nemit " ∷ h ∷ "h 60\n" ∷
    "> deliver " ∷ h ∷ "c\ntook " ∷ h ∷ "c 60\nactive " ∷ h ∷ "c\n" ∷
    "> reset " ∷ h ∷ "c\nemit " ∷ h ∷ "c F90400\n" ∷
    "> deliver " ∷ h ∷ "h\ntook " ∷ h ∷ "h F90400\nup " ∷ h ∷ "h " ∷ session ∷ "\nemit " ∷ h ∷ "h E6\n" ∷
    "> deliver " ∷ h ∷ "c\ntook " ∷ h ∷ "c E6\nup " ∷ h ∷ "c " ∷ session ∷ "\n" ∷ []

-- what is told of that the first time
abbrev pub host_activates_told : String → String → String → List String
host_activates_told h high low =
    "> activate " ∷ h ∷ " " ∷ high ∷ low ∷ " 01\nemit " ∷ h ∷ "h 61" ∷ high ∷ low ∷ "\n" ∷
    "> deliver " ∷ h ∷ "c\ntook " ∷ h ∷ "c 61" ∷ high ∷ low ∷ "\ncommand 00 sync " ∷ h ∷ " " ∷ high ∷ low ∷ "\nemit " ∷ h ∷ "c 6201\n" ∷
    host_comes_up_told h "1"

-- and the second time, with the same identifier, where this side of it was up: `h`, or `c`
abbrev pub host_activates_again_told : String → String → String → String → List String
host_activates_again_told h high low side =
    "> activate " ∷ h ∷ " " ∷ high ∷ low ∷ " 01\ndown " ∷ h ∷ side ∷ " act\nemit " ∷ h ∷ "h 61" ∷ high ∷ low ∷ "\n" ∷
    "> deliver " ∷ h ∷ "c\ntook " ∷ h ∷ "c 61" ∷ high ∷ low ∷ "\nemit " ∷ h ∷ "c 6201\n" ∷
    host_comes_up_told h "2"

-- pipe 01 is opened
abbrev pub pipe_opens : String → List String
pipe_opens h = "send " ∷ h ∷ "h 01 03\ndeliver " ∷ h ∷ "c\ndeliver " ∷ h ∷ "h\n" ∷ []

-- what is told of that, where the controller has kept n commands then
abbrev pub pipe_opens_told : String → String → List String
pipe_opens_told h n =
    "> send " ∷ h ∷ "h 01 03\nsent " ∷ h ∷ "h 1 01 03\nemit " ∷ h ∷ "h 808103\n" ∷
    "> deliver " ∷ h ∷ "c\ntook " ∷ h ∷ "c 808103\ngot " ∷ h ∷ "c 1 01 03\nturn " ∷ h ∷ "c 01 03\ncommand 00 opened " ∷ h ∷ " 01 01\nsent " ∷ h ∷
    "c 1 01 8000\nok 00 " ∷ n ∷ "\nemit " ∷ h ∷ "c C1\nemit " ∷ h ∷ "c 81818000\n" ∷
    "> deliver " ∷ h ∷ "h\ntook " ∷ h ∷ "h C1\nacked " ∷ h ∷ "h 1 1\ntook " ∷ h ∷ "h 81818000\ngot " ∷ h ∷ "h 1 01 8000\nturn " ∷ h ∷
    "h 01 8000\nemit " ∷ h ∷ "h C1\n" ∷ []

-- both, where the identifier is the number of the host, and the controller has all acknowledged
abbrev pub host_begins : String → List String
host_begins h = host_activates h "00" h ++ pipe_opens h ++ "deliver " ∷ h ∷ "c\n" ∷ []

abbrev pub host_begins_told : String → String → List String
host_begins_told h n =
    host_activates_told h "00" h ++ pipe_opens_told h n ++
    "> deliver " ∷ h ∷ "c\ntook " ∷ h ∷ "c C1\nacked " ∷ h ∷ "c 1 1\n" ∷ []

-- ## Pipes between two hosts

-- host 01 allows these hosts to ask for pipes
abbrev pub host_allows : String → List String
host_allows hosts = "send 01h 01 0103" ∷ hosts ∷ "\ndeliver 01c\ndeliver 01h\ndeliver 01c\n" ∷ []

abbrev pub host_allows_told : String → String → List String
host_allows_told hosts n =
    "> send 01h 01 0103" ∷ hosts ∷ "\nsent 01h 1 01 0103" ∷ hosts ∷ "\nemit 01h 89810103" ∷ hosts ∷ "\n" ∷
    "> deliver 01c\ntook 01c 89810103" ∷ hosts ∷ "\ngot 01c 1 01 0103" ∷ hosts ∷ "\nturn 01c 01 0103" ∷ hosts ∷ "\ncommand 00 set 01 00 03 " ∷ hosts ∷
    "\nsent 01c 1 01 80\nok 00 " ∷ n ∷ "\nemit 01c C2\nemit 01c 8A8180\n" ∷
    "> deliver 01h\ntook 01h C2\nacked 01h 1 2\ntook 01h 8A8180\ngot 01h 1 01 80\nturn 01h 01 80\nemit 01h C2\n" ∷
    "> deliver 01c\ntook 01c C2\nacked 01c 1 2\n" ∷ []

-- then host 02 asks for a pipe to host 01, and gets it
abbrev pub pipe_is_made : List String
pipe_is_made = "send 02h 01 10410141\ndeliver 02c\ndeliver 01h\ndeliver 01c\ndeliver 02h\ndeliver 02c\ndeliver 01h\n" ∷ []

abbrev pub pipe_is_made_told : String → List String
pipe_is_made_told n =
    "> send 02h 01 10410141\nsent 02h 1 01 10410141\nemit 02h 898110410141\n" ∷
    "> deliver 02c\ntook 02c 898110410141\ngot 02c 1 01 10410141\nturn 02c 01 10410141\nask 01 120241014102\nsent 01c 1 01 120241014102\n" ∷
    "emit 01c 9281120241014102\nemit 02c C2\n" ∷
    "> deliver 01h\ntook 01h 9281120241014102\ngot 01h 1 01 120241014102\nturn 01h 01 120241014102\ncommand 01 create 02 02 41 01 41\n" ∷
    "sent 01h 1 01 80\nok 01 1\nemit 01h C3\nemit 01h 938180\n" ∷
    "> deliver 01c\ntook 01c C3\nacked 01c 1 3\ntook 01c 938180\ngot 01c 1 01 80\nturn 01c 01 80\ncommand 00 create 02 02 41 01 41\n" ∷
    "sent 02c 1 01 800241014102\nok 00 " ∷ n ∷ "\nemit 01c C3\nemit 02c 8A81800241014102\n" ∷
    "> deliver 02h\ntook 02h C2\nacked 02h 1 2\ntook 02h 8A81800241014102\ngot 02h 1 01 800241014102\nturn 02h 01 800241014102\n" ∷
    "command 02 create 02 02 41 01 41\nemit 02h C2\n" ∷
    "> deliver 02c\ntook 02c C2\nacked 02c 1 2\n" ∷
    "> deliver 01h\ntook 01h C3\nacked 01h 1 3\n" ∷ []

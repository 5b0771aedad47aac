-- Words that were read by hand, and what they ask for.
use Rattle.std.proofs.Common.{◌≡◌, Some, None, [], ◌∷◌, codes, true, refl}
use Rattle.addr_pattern.specs.declared.addr.Addr.{Addr}
use Rattle.addr_pattern.specs.declared.endpoint.Endpoint.{Endpoint}
use Rattle.clap.specs.Words.{is_simple_and_free}
use Rattle.clap.proofs.OnLiterals.{clap_on_literals}
use Rattle.socks_grammar.specs.declared.protocol.Command.{Command}
use Rattle.command_line.specs.Table.{check_app, decide_app, replay_app}
use Rattle.command_line.specs.Words.{Wanted, asked_of}

pub check_is_simple : is_simple_and_free check_app ≡ true
unfolding clap_on_literals
check_is_simple = refl

pub decide_is_simple : is_simple_and_free decide_app ≡ true
unfolding clap_on_literals
decide_is_simple = refl

pub replay_is_simple : is_simple_and_free replay_app ≡ true
unfolding clap_on_literals
replay_is_simple = refl

checks_a_file : asked_of (codes "check" ∷ codes "a.conf" ∷ []) ≡ Some (Wanted.Check (codes "a.conf"))
unfolding clap_on_literals
checks_a_file = refl

checks_an_empty_name : asked_of (codes "check" ∷ [] ∷ []) ≡ Some (Wanted.Check [])
unfolding clap_on_literals
checks_an_empty_name = refl

checks_one_hyphen : asked_of (codes "check" ∷ codes "-" ∷ []) ≡ Some (Wanted.Check (codes "-"))
unfolding clap_on_literals
checks_one_hyphen = refl

checks_behind_hyphens : asked_of (codes "check" ∷ codes "--" ∷ codes "-a" ∷ []) ≡ Some (Wanted.Check (codes "-a"))
unfolding clap_on_literals
checks_behind_hyphens = refl

hyphens_end_options_once : asked_of (codes "check" ∷ codes "--" ∷ codes "--" ∷ []) ≡ Some (Wanted.Check (codes "--"))
unfolding clap_on_literals
hyphens_end_options_once = refl

no_option : asked_of (codes "check" ∷ codes "-a" ∷ []) ≡ None
unfolding clap_on_literals
no_option = refl

no_option_with_a_value : asked_of (codes "check" ∷ codes "a.conf" ∷ codes "--x=1" ∷ []) ≡ None
unfolding clap_on_literals
no_option_with_a_value = refl

no_help : asked_of (codes "check" ∷ codes "--help" ∷ []) ≡ None
unfolding clap_on_literals
no_help = refl

two_files : asked_of (codes "check" ∷ codes "a" ∷ codes "b" ∷ []) ≡ None
unfolding clap_on_literals
two_files = refl

no_file : asked_of (codes "check" ∷ []) ≡ None
unfolding clap_on_literals
no_file = refl

no_word : asked_of [] ≡ None
no_word = refl

unknown_command : asked_of (codes "serve" ∷ codes "a.conf" ∷ []) ≡ None
unknown_command = refl

replays : asked_of (codes "replay" ∷ []) ≡ Some Wanted.Replay
unfolding clap_on_literals
replays = refl

replays_behind_hyphens : asked_of (codes "replay" ∷ codes "--" ∷ []) ≡ Some Wanted.Replay
unfolding clap_on_literals
replays_behind_hyphens = refl

replays_no_word : asked_of (codes "replay" ∷ [] ∷ []) ≡ None
unfolding clap_on_literals
replays_no_word = refl

-- 10.0.0.5:5000, the client of the rows
client : Endpoint
client = record { addr = Addr.V4 167772165; port = 5000 }

-- 198.51.100.10:80
target : Endpoint
target = record { addr = Addr.V4 3325256714; port = 80 }

decides : asked_of (codes "decide" ∷ codes "a.conf" ∷ codes "10.0.0.5:5000" ∷ codes "198.51.100.10:80" ∷ codes "connect" ∷ [])
    ≡ Some (Wanted.Decide (codes "a.conf") client target None Command.Connect)
unfolding clap_on_literals client target
decides = refl

decides_by_name : asked_of (codes "decide" ∷ codes "a.conf" ∷ codes "10.0.0.5:5000" ∷ codes "a@b@198.51.100.10:80" ∷ codes "udpassociate" ∷ [])
    ≡ Some (Wanted.Decide (codes "a.conf") client target (Some (codes "a@b")) Command.UdpAssociate)
unfolding clap_on_literals client target
decides_by_name = refl

no_name_of_a_client : asked_of (codes "decide" ∷ codes "a.conf" ∷ codes "10.0.0.5:5000" ∷ codes "a@198.51.100.10:80" ∷ codes "bindreply" ∷ []) ≡ None
unfolding clap_on_literals
no_name_of_a_client = refl

no_empty_name : asked_of (codes "decide" ∷ codes "a.conf" ∷ codes "10.0.0.5:5000" ∷ codes "@198.51.100.10:80" ∷ codes "connect" ∷ []) ≡ None
unfolding clap_on_literals
no_empty_name = refl

no_port : asked_of (codes "decide" ∷ codes "a.conf" ∷ codes "10.0.0.5" ∷ codes "198.51.100.10:80" ∷ codes "connect" ∷ []) ≡ None
unfolding clap_on_literals
no_port = refl

no_such_command : asked_of (codes "decide" ∷ codes "a.conf" ∷ codes "10.0.0.5:5000" ∷ codes "198.51.100.10:80" ∷ codes "Connect" ∷ []) ≡ None
unfolding clap_on_literals
no_such_command = refl

-- Where a script that is served begins: its users, one worker, and nothing published.
use Rattle.std.proofs.Common.{◌≡◌, ap, refl, List, [], ◌∷◌, arith}
use Rattle.std.proofs.lemmas.List.Elements.{All-nil}
use Rattle.generation.specs.Published.{none_published}
use Rattle.session_desk.specs.Books.{Book}
use Rattle.session_desk.specs.Standings.{StandsFor}
use Rattle.socks_machine.specs.declared.script.ScriptLine.{ScriptLine}
use Rattle.socks_machine.specs.Follows.{begins, users_of, workers_of, opens_of}
use Rattle.socks_machine.specs.Script.{first_surroundings}
use Rattle.socks_machine.specs.Step.{start as begun}
use Rattle.replay_script.specs.declared.state.State.{State}
use Rattle.replay_script.specs.Conditions.{IsServed, IsServedFrom, start}
use Rattle.replay_run.specs.Behind.{IsBehind}
use Rattle.replay_run.proofs.Playing.{plays-none}
use Rattle.conf_types.specs.Plain.{IsPlain}

-- no line that is served gives a number of workers
one-worker : (state : State) (ls : List ScriptLine) → IsServedFrom state ls → workers_of ls ≡ 1
one-worker state [] h = refl
one-worker state (ScriptLine.Workers n ∷ ls) h = absurd h.0
one-worker state (ScriptLine.UsersAre us ∷ ls) h = refl
one-worker state (ScriptLine.Publish k ∷ ls) h = refl
one-worker state (ScriptLine.See w ∷ ls) h = refl
one-worker state (ScriptLine.Open w a peer local ∷ ls) h = refl
one-worker state (ScriptLine.Client a bytes ∷ ls) h = refl
one-worker state (ScriptLine.Target a bytes ∷ ls) h = refl
one-worker state (ScriptLine.ClientEnd a ∷ ls) h = refl
one-worker state (ScriptLine.TargetEnd a ∷ ls) h = refl
one-worker state (ScriptLine.Lookup a o ∷ ls) h = refl
one-worker state (ScriptLine.Dial a o ∷ ls) h = refl
one-worker state (ScriptLine.Door a o ∷ ls) h = refl
one-worker state (ScriptLine.Peer a p ∷ ls) h = refl
one-worker state (ScriptLine.Port a o ∷ ls) h = refl
one-worker state (ScriptLine.Datagram a p bytes ∷ ls) h = refl
one-worker state (ScriptLine.Room a x n ∷ ls) h = refl
one-worker state (ScriptLine.Fault a x k ∷ ls) h = refl
one-worker state (ScriptLine.Now n ∷ ls) h = refl
one-worker state (ScriptLine.Turn w a ∷ ls) h = refl
one-worker state (ScriptLine.Stop ∷ ls) h = refl

-- a desk of no lines, for as many associations as the script opens
pub is-fresh : (desk : Book) (script : List ScriptLine) → StandsFor desk [] [] → desk.cap ≡ opens_of script → IsServed script
    → IsBehind (users_of script) script [] start (record { desk = desk; gens = none_published; moment = 0; slots = []; out = [] })
is-fresh desk script stands cap served = record {
  s = first_surroundings;
  w = begins script;
  played = plays-none script;
  mirrors = record {
    moment' = refl;
    users' = refl;
    pubs = refl;
    below = omega arith;
    seen' = ap (λ n. (begun (users_of script) (opens_of script) n).seen) (one-worker start script served);
    records = refl;
    slots' = tt;
    desk = stands;
    cap' = cap;
    marks = refl;
  };
  matches = record {
    users' = λ some. absurd (omega (arith, some));
    published' = λ h. cc;
    seen' = λ h. cc;
    moment = refl;
    sides = tt;
    plain = All-nil IsPlain;
  };
}

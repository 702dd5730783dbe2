-- The definitions computed on the toy language.
use Rattle.std.proofs.Common.{true, nat_eq, ◌≡◌, List, [], ◌∷◌, ℕ, refl}
use Rattle.side_trees.specs.Trees.{Return, Spend}
use Rattle.side_trees.specs.Sides.{Message, Request, Reply, Sends, Shows, Got, Begin, Over, Await, Texting, Serving, OutOfFuel, Beyond, Broken, Half, Going, Failed, half, idling, shown}
use Rattle.side_trees.specs.SharedRun.{Side, A, B, Two, two_parts, Text, Entry, Puts, Begins, Course, Rests, Leaves, Dry, one, wrote, heard, begun}
use Rattle.side_trees.specs.FreeMessages.{Packet, Carries, Releases, Released, Pings, Ponged, Closes, Reads, Sweeps, line}
use Rattle.side_trees.specs.Counts.{exports, proxies}
use Rattle.side_trees.specs.Numbers.{Numbered, Brings, tally}
use Rattle.side_trees.specs.Toy.{Int, Own, Outcome, Gives, Raises, Plain, Mine, Yours, Answers, Faults, Call, Step, BoxedCall, BoxedStep, BoxedMake, Code, Says, Makes, Drains, Lends, Borrows, Asks, Then, Left, toy, cell, cell_list}

abbrev zero_done : Outcome
zero_done = Gives (Int 0)

abbrev both_done : Two toy.A
both_done = record { of_a = zero_done; of_b = zero_done }

abbrev empty : Two toy.S
empty = record { of_a = []; of_b = [] }

-- a text is a piece of code
abbrev text : Side → Code → Text toy
text h c = record { side = h; tree = Spend c (λ o. Return o) }

abbrev begins : Side → Code → Entry toy
begins h c = Begins h (Spend c (λ o. Return o))

abbrev says : Side → ℕ → Entry toy
says h n = Puts h (Shows n)

abbrev asks : Side → toy.Req → Entry toy
asks h r = Puts h (Sends (Request r))

abbrev replies : Side → toy.Ans → Entry toy
replies h m = Puts h (Sends (Reply m))

abbrev course : ℕ → List (Text toy) → Course toy (two_parts toy)
course u texts = one toy (two_parts toy) both_done empty u texts

-- side h by itself, from u units, over what a log has for it
abbrev side_of : Side → ℕ → List (Entry toy) → Half toy
side_of h u talk = half toy (idling toy zero_done [] u) (heard toy h talk)

-- A print at home A.
prints : course 3 (text A (Says 7) ∷ []) ≡ Rests both_done empty 2 (says A 7 ∷ begins A (Says 7) ∷ [])
prints = refl

-- A calls B's function 2, which calls back A's function 1, which calls back B's function 0, which raises: a callback inside a callback.
-- The exception goes through the open requests as answers do. Five units are spent, and two are left.
abbrev calls : Code
calls = Asks (Call 2 (Int 9))

abbrev nested_questions : List (Entry toy)
nested_questions = asks A (BoxedCall 0 (Plain 9)) ∷ says A 1 ∷ asks B (BoxedCall 1 (Plain 9)) ∷ says B 2 ∷ asks A (BoxedCall 2 (Plain 9)) ∷ begins A calls ∷ []

abbrev nested_talk : List (Entry toy)
nested_talk = replies B (Faults 9) ∷ replies A (Faults 9) ∷ replies B (Faults 9) ∷ nested_questions

nested : course 7 (text A calls ∷ []) ≡ Rests (record both_done { of_a = Raises 9 }) empty 2 nested_talk
nested = refl

-- Each prints at its own home.
nested_output_a : shown toy (wrote toy A nested_talk) ≡ 1 ∷ []
nested_output_a = refl

nested_output_b : shown toy (wrote toy B nested_talk) ≡ 2 ∷ []
nested_output_b = refl

-- The two sides by themselves: A spends two units, B three.
nested_at_a : side_of A 2 nested_talk ≡ Going (Over (Raises 9)) [] 0 (wrote toy A nested_talk)
nested_at_a = refl

nested_at_b : side_of B 3 nested_talk ≡ Going (Over zero_done) [] 0 (wrote toy B nested_talk)
nested_at_b = refl

-- After a text that raised nothing begins.
nothing_after : course 7 (text B (Says 1) ∷ text A calls ∷ []) ≡ course 7 (text A calls ∷ [])
nothing_after = refl

none_begun_after : begun toy nested_talk ≡ text A calls ∷ []
none_begun_after = refl

-- Three units end inside the inner callback: B is out of fuel with the request read, and A waits for it under the request that it serves, over its text.
dry : course 3 (text A calls ∷ []) ≡ Dry empty nested_questions
dry = refl

dry_at_b : side_of B 1 nested_questions ≡ Failed OutOfFuel [] 0 (wrote toy B nested_questions)
dry_at_b = refl

dry_at_a : side_of A 2 nested_questions ≡ Going (Await (Serving (Await Texting (λ o. Return o))) (λ o. Return o)) [] 0 (wrote toy A nested_questions)
dry_at_a = refl

-- A lends a counter of two steps to B's function 0, which takes steps until it raises, with no unit of its own in between, and prints at B.
abbrev lent_talk : List (Entry toy)
lent_talk =
    replies B (Answers (Plain 0)) ∷ replies A (Faults 0) ∷ asks B (BoxedStep 0) ∷ says B 0 ∷ replies A (Answers (Plain 0)) ∷ asks B (BoxedStep 0)
    ∷ says B 1 ∷ replies A (Answers (Plain 1)) ∷ asks B (BoxedStep 0) ∷ asks A (BoxedCall 0 (Mine 0)) ∷ begins A (Lends 2 0) ∷ []

lent : course 9 (text A (Lends 2 0) ∷ []) ≡ Rests both_done (record { of_a = 0 ∷ []; of_b = [] }) 2 lent_talk
lent = refl

lent_at_a : side_of A 5 lent_talk ≡ Going (Over zero_done) (0 ∷ []) 0 (wrote toy A lent_talk)
lent_at_a = refl

lent_at_b : side_of B 2 lent_talk ≡ Going (Over zero_done) [] 0 (wrote toy B lent_talk)
lent_at_b = refl

-- The same loop over a counter of its own home: the three steps cost three units too.
drained_at_home : course 9 (text A (Then (Makes 2) (Drains (Own 0))) ∷ []) ≡ Rests both_done (record { of_a = 0 ∷ []; of_b = [] }) 3 (says A 0 ∷ says A 1 ∷ begins A (Then (Makes 2) (Drains (Own 0))) ∷ [])
drained_at_home = refl

-- Two texts in turn, at different homes.
in_turn : course 5 (text A (Asks (Step 0)) ∷ text B (Makes 3) ∷ [])
    ≡ Rests (record { of_a = Gives (Int 2); of_b = Gives (Own 0) }) (record { of_a = []; of_b = 2 ∷ [] }) 2
    (replies B (Answers (Plain 2)) ∷ asks A (BoxedStep 0) ∷ begins A (Asks (Step 0)) ∷ begins B (Makes 3) ∷ [])
in_turn = refl

-- A asks for a step of a counter that B does not have: B leaves the subset.
leaves : course 5 (text A (Asks (Step 0)) ∷ []) ≡ Leaves Left empty 3 (asks A (BoxedStep 0) ∷ begins A (Asks (Step 0)) ∷ [])
leaves = refl

leaves_at_b : side_of B 4 (asks A (BoxedStep 0) ∷ []) ≡ Failed (Beyond Left) [] 3 []
leaves_at_b = refl

-- One list of cells with their homes: A asks B for a counter and takes steps of it.
abbrev borrowed_talk : List (Entry toy)
borrowed_talk =
    replies B (Faults 0) ∷ asks A (BoxedStep 1) ∷ says A 0 ∷ replies B (Answers (Plain 0)) ∷ asks A (BoxedStep 1)
    ∷ replies B (Answers (Mine 1)) ∷ asks A (BoxedMake 1) ∷ begins A (Borrows 1) ∷ []

one_list : one toy cell_list both_done (cell B 5 ∷ cell A 6 ∷ []) 9 (text A (Borrows 1) ∷ []) ≡ Rests both_done (cell B 5 ∷ cell A 6 ∷ cell B 0 ∷ []) 5 borrowed_talk
one_list = refl

-- A reply that nothing awaits, and a text while a side waits.
unasked : half toy (idling toy zero_done [] 4) (Got (Reply (Faults 1)) ∷ []) ≡ Failed Broken [] 4 []
unasked = refl

too_early : half toy (idling toy zero_done [] 4) (Begin (Spend (Says 1) (λ o. Return o)) ∷ Begin (Spend calls (λ o. Return o)) ∷ []) ≡ Failed Broken [] 3 (Sends (Request (BoxedCall 2 (Plain 9))) ∷ [])
too_early = refl

-- B's numbers in the callback inside a callback: the request that it reads first is 0 and the one inside it 1; its own question is 0 too, and its two replies have the numbers of the requests.
abbrev number : ℕ → Message toy → Numbered toy
number n m = record { number = n; message = m }

abbrev idle_side : Half toy
idle_side = idling toy zero_done [] 3

numbers_at_b : (tally toy idle_side (Brings 0 (Reply (Faults 9)) ∷ Brings 1 (Request (BoxedCall 0 (Plain 9))) ∷ Brings 0 (Request (BoxedCall 2 (Plain 9))) ∷ [])).out
    ≡ number 0 (Reply (Faults 9)) ∷ number 1 (Reply (Faults 9)) ∷ number 0 (Request (BoxedCall 1 (Plain 9))) ∷ []
numbers_at_b = refl

wrong_number : (tally toy idle_side (Brings 1 (Reply (Faults 9)) ∷ Brings 0 (Request (BoxedCall 2 (Plain 9))) ∷ [])).side
    ≡ Failed Broken [] 2 (Sends (Request (BoxedCall 1 (Plain 9))) ∷ Shows 2 ∷ [])
wrong_number = refl

-- A release of two references, a ping and the answer to a release, round a question about a counter, and a question behind the close, which is not read.
abbrev steps_0 : Packet toy ℕ
steps_0 = Carries (Request (BoxedStep 0))

free_messages : line toy ℕ (idling toy zero_done (8 ∷ []) 3) (Reads steps_0 ∷ Reads Closes ∷ Sweeps ((4, 1) ∷ []) ∷ Reads Released ∷ Reads Pings ∷ Reads steps_0 ∷ Reads (Releases 0 2) ∷ [])
    ≡ record {
      side = Going (Over zero_done) (7 ∷ []) 2 (Sends (Reply (Answers (Plain 7))) ∷ []);
      out = Releases 4 1 ∷ Ponged ∷ Carries (Reply (Answers (Plain 7))) ∷ Released ∷ [];
      closed = true;
    }
free_messages = refl

-- References to cell 0 that answers give: B gave three, of which A has read two and given them up, and one is in flight.
abbrev given : Message toy → List ℕ
given (Request r) = []
given (Reply (Faults n)) = []
given (Reply (Answers (Plain n))) = []
given (Reply (Answers (Mine k))) = k ∷ []
given (Reply (Answers (Yours k))) = []

abbrev gives : ℕ → Packet toy ℕ
gives k = Carries (Reply (Answers (Mine k)))

exported : exports toy nat_eq given 0 (gives 0 ∷ gives 1 ∷ gives 0 ∷ gives 0 ∷ []) (Releases 0 2 ∷ []) ≡ 1
exported = refl

held : proxies toy nat_eq given 0 (Releases 0 2 ∷ []) (gives 1 ∷ gives 0 ∷ gives 0 ∷ []) ≡ 0
held = refl

-- What a topic of the program is. Our own.
use Rattle.std.specs.Prelude.{ℕ, List}
use Rattle.event_admin.specs.declared.topic.Topic.{Topic}

abbrev pub text_of : Topic → List ℕ
text_of topic = topic.text.now
